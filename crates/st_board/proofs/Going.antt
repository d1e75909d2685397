-- What keeps a table, when a started pool is gone.
use Rattle.std.proofs.Common.{◌≡◌, ◌⊎◌, inl, inr, ℕ, ◌<◌, ◌≤◌, ◌+◌, arith, length, List, [], ◌∷◌, Bool, true, false, cond, not, map, Option, Some, None, is_some, refl, sym, ap, subst, ◌∙◌}
use Rattle.std.specs.Prelude.{option_map, ◌==◌}
use Rattle.std.specs.List.{AllByRecursion}
use Rattle.st_units.specs.declared.rows.DevRow.{DevRow}
use Rattle.st_model.specs.declared.state.EngineState.{EngineState}
use Rattle.st_model.specs.declared.state.PoolState.{PoolState}
use Rattle.st_model.specs.Look.{Text, is_started, row_of, uses}
use Rattle.st_model.specs.Parts.{is_used, known, table_of}
use Rattle.st_model.specs.Shown.{halted_pools}
use Rattle.st_rack.specs.Device.{State}
use Rattle.st_rack.specs.Calls.{Devices, Has, sectors_of}
use Rattle.st_rack.specs.Parts.{Joins}
use Rattle.st_pool.specs.Halts.{HaltedView}
use Rattle.st_pool.specs.View.{now}
use Rattle.st_board.specs.Free.{AreFreeFor, AreTheFree, IsClaimed, IsFreeFor, free_sectors}
use Rattle.st_board.specs.Holds.{Fits, HasOthers, KeepsTable, halted_at}
use Rattle.st_board.specs.Changes.{Goes, IsFreedOn, without}
use Rattle.st_board.proofs.Serials.{Only, at, but_at, but_unused, but_used, count_but, found_halted, known_at, one, only_one, same_number, stopped_in, used, uses_known}
use Rattle.st_board.proofs.Changing.{through}

abbrev size_of : DevRow → ℕ
size_of row = row.sectors

-- the state of a rack at its moment, after it took another in
pub now_own : {D : Type 0} (devs : D → Devices) (moment : D → ℕ) (state_at : D → ℕ → State) (old other new : D) → Joins devs moment state_at old other new
    → (p : Text) → is_some (sectors_of (devs other) p) ≡ false → now moment state_at new p ≡ now moment state_at old p
now_own devs moment state_at old other new joins p none = by (Rattle.std.proofs.Common.nat_lt (moment old) (moment new)) refl
  where
    by : (b : Bool) → Rattle.std.proofs.Common.nat_lt (moment old) (moment new) ≡ b → state_at new (moment new) p ≡ state_at old (moment old) p
    by true e = let less : moment old < moment new = grind arith in joins.since (moment new) p none less (omega arith)
    by false e =
        let le = joins.later in
        let same : moment new ≡ moment old = grind arith in
        joins.states (moment new) p none (omega (arith, same)) ∙ ap (λ k. state_at old k p) same

module _ {D : Type 0} (devs : D → Devices) (moment : D → ℕ) (state_at : D → ℕ → State) (s : EngineState) (p : PoolState) (goes : Goes s p)
    (rack : D) (freed : IsFreedOn devs moment state_at s p rack) where
  abbrev u : EngineState
  u = without p s

  pub one_of : Only p s.pools × (at p.serial s.pools ≡ Some p)
  one_of = only_one s.devices p.name p s.pools goes.before.apart goes.here

  pub stopped_after : (r : ℕ) → at r (halted_pools u.pools) ≡ cond (r == p.serial) None (at r (halted_pools s.pools))
  stopped_after r =
      found_halted s.devices r u.pools goes.after.apart ∙ (ap stopped_in (but_at p.serial r s.pools) ∙ (through (r == p.serial) None (at r s.pools)
      ∙ ap (λ o. cond (r == p.serial) None o) (sym (found_halted s.devices r s.pools goes.before.apart))))

  not_there : is_started p.mode ≡ true → at p.serial (halted_pools s.pools) ≡ None
  not_there up = found_halted s.devices p.serial s.pools goes.before.apart ∙ (ap stopped_in one_of.1 ∙ ap (λ b. cond b None (Some p)) up)

  same_at : is_started p.mode ≡ true → (r : ℕ) → at r (halted_pools u.pools) ≡ at r (halted_pools s.pools)
  same_at up r = stopped_after r ∙ by (r == p.serial) refl
    where
      by : (c : Bool) → (r == p.serial) ≡ c → cond c None (at r (halted_pools s.pools)) ≡ at r (halted_pools s.pools)
      by true e = sym (subst (λ n. at n (halted_pools s.pools) ≡ None) (sym (same_number r p.serial e)) (not_there up))
      by false e = refl

  no_use : (path : Text) (ps : List PoolState) → Only p ps → is_used path (known p) ≡ false → AllByRecursion (λ (x : PoolState). (x.serial == p.serial) ≡ true → is_used path (known x) ≡ false) ps
  no_use path [] h e = tt
  no_use path (x ∷ ps) h e = (λ k. ap (λ z. is_used path (known z)) (h.0 k) ∙ e, no_use path ps h.1 e)

  known_after : (r : ℕ) → is_some (at r u.pools) ≡ true → is_some (at r s.pools) ≡ true
  known_after r e = by (r == p.serial) (sym (ap is_some (but_at p.serial r s.pools)) ∙ e)
    where
      by : (c : Bool) → is_some (cond c None (at r s.pools)) ≡ true → is_some (at r s.pools) ≡ true
      by true k = absurd cc
      by false k = k

  pub claimed_after : (r : ℕ) → IsClaimed (table_of u) r → IsClaimed (table_of s) r
  claimed_after r (inl e) = inl (known_at r s.pools ∙ known_after r (sym (known_at r u.pools) ∙ e))
  claimed_after r (inr e) = inr e

  there : (o : Option DevRow) (n : ℕ) → option_map size_of o ≡ Some n → is_some o ≡ true
  there None n e = absurd cc
  there (Some row) n e = refl

  module _ (free joined : D) (joins : Joins devs moment state_at free rack joined) where
    pub the_free : AreTheFree (table_of s) (devs free) → (path : Text) (o : Option ℕ) → sectors_of (devs rack) path ≡ o → sectors_of (devs joined) path ≡ free_sectors (table_of u) path
    the_free was path (Some n) e =
        let size = freed.sizes path n e in
        let unused : used path u.pools ≡ false = but_used s.devices path p.name p s.pools (there (row_of path s.devices) n size) (uses_known path p ∙ freed.own path n e) goes.before.apart goes.here in
        joins.others path n e ∙ (sym size ∙ sym (ap (λ b. cond b None (option_map size_of (row_of path s.devices))) unused))
    the_free was path None e =
        joins.own path (ap is_some e) ∙ (was path ∙ ap (λ b. cond b None (option_map size_of (row_of path s.devices))) (sym (but_unused path p.serial s.pools (no_use path s.pools one_of.0 (uses_known path p ∙ off (uses path p) refl)))))
      where
        off : (b : Bool) → uses path p ≡ b → uses path p ≡ false
        off true k = let has = freed.all path k in let both : sectors_of (devs rack) path ≡ Some has.0 = has.1 in absurd cc
        off false k = k

    pub settled : AreFreeFor (table_of s) (devs free) (now moment state_at free) → (path : Text) (o : Option ℕ) → sectors_of (devs rack) path ≡ o → (n : ℕ) → Has (devs joined) path n → IsFreeFor (table_of u) n (now moment state_at joined path)
    settled was path (Some m) e n has =
        let same : m ≡ n = let other = joins.others path m e in cc in
        subst (IsFreeFor (table_of u) n) (sym (joins.states_others (moment joined) path m e (omega arith))) (subst (λ k. IsFreeFor (table_of u) k (now moment state_at rack path)) same (freed.each path m e))
    settled was path None e n has =
        let f = was path n (sym (joins.own path (ap is_some e)) ∙ has) in
        subst (IsFreeFor (table_of u) n) (sym (now_own devs moment state_at free rack joined joins path (ap is_some e)))
        (record { settled = f.settled; alone = f.alone; silent = λ place lt r c. f.silent place lt r (claimed_after r c) })

    module _ (halted : List (HaltedView D)) (up : is_started p.mode ≡ true) (keeps : KeepsTable devs moment state_at (table_of s) free halted) where
      counts : length (halted_pools u.pools) + 0 ≡ length (halted_pools s.pools)
      counts = ap (λ b. length (halted_pools u.pools) + one (not b)) (sym up) ∙ count_but s.devices p.serial p s.pools goes.before.apart one_of.1

      pub lacks_gone : ((r : ℕ) → HasOthers devs s.devices (at r (halted_pools s.pools)) (halted_at r halted)) → (r : ℕ) → HasOthers devs s.devices (at r (halted_pools u.pools)) (halted_at r halted)
      lacks_gone was r = subst (λ o. HasOthers devs s.devices o (halted_at r halted)) (sym (same_at up r)) (was r)

      pub keeps_gone : KeepsTable devs moment state_at (table_of u) joined halted
      keeps_gone = record {
        the_free = λ path. the_free keeps.the_free path (sectors_of (devs rack) path) refl;
        settled = λ path n has. settled keeps.settled path (sectors_of (devs rack) path) refl n has;
        are_halted = record {
          each = λ r. subst (λ o. Fits devs moment state_at o (halted_at r halted)) (sym (same_at up r)) (keeps.are_halted.each r);
          once = keeps.are_halted.once;
          count = let more = counts in let same = keeps.are_halted.count in omega (arith, more, same);
        };
      }
