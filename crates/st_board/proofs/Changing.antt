-- What keeps a table, through a change of one pool.
use Rattle.std.proofs.Common.{◌≡◌, inl, inr, ℕ, ◌+◌, arith, length, List, [], ◌∷◌, ◌++◌, Bool, true, false, cond, not, Option, Some, None, is_some, refl, sym, ap, subst, ◌∙◌}
use Rattle.std.specs.Prelude.{option_map, ◌==◌}
use Rattle.std.specs.List.{AllByRecursion}
use Rattle.st_units.specs.declared.rows.DevRow.{DevRow}
use Rattle.st_model.specs.declared.state.EngineState.{EngineState}
use Rattle.st_model.specs.declared.state.PoolMode.{PoolMode}
use Rattle.st_model.specs.declared.state.PoolMode.TheVariants.{Up, Down, Stopped, Unsettled, Incomplete}
use Rattle.st_model.specs.declared.state.PoolState.{PoolState}
use Rattle.st_model.specs.Look.{Text, is_started, row_of, uses}
use Rattle.st_model.specs.Parts.{is_used, known, table_of}
use Rattle.st_model.specs.Shown.{halted_pools}
use Rattle.st_model.specs.Valid.{AreThere, is_there}
use Rattle.st_rack.specs.Device.{State}
use Rattle.st_rack.specs.Calls.{Devices}
use Rattle.st_table.specs.Steps.{StepsPut, with_other}
use Rattle.st_pool.specs.Halts.{Halts, HaltedView}
use Rattle.st_pool.specs.View.{now}
use Rattle.st_board.specs.Free.{AreTheFree, AreFreeFor, IsClaimed}
use Rattle.st_board.specs.Holds.{Fits, HasOthers, KeepsTable, halted_at}
use Rattle.st_board.specs.Changes.{Turns}
use Rattle.st_board.proofs.Present.{lacks, lacks_one, uses_there}
use Rattle.st_board.proofs.Serials.{Only, all_found, at, count_put, found_halted, known_at, one, only_one, put, put_at, put_used, same_number, self_number, stopped_in, used, uses_known}
use Rattle.st_board.proofs.Halted.{apart_last, last_of}

pub through : (c : Bool) (a b : Option PoolState) → stopped_in (cond c a b) ≡ cond c (stopped_in a) (stopped_in b)
through true a b = refl
through false a b = refl

abbrev size_of : DevRow → ℕ
size_of row = row.sectors

-- ---- a pool becomes another of its serial

module _ (law : StepsPut) (s : EngineState) (p q : PoolState) (turns : Turns s p q) where
  abbrev u : EngineState
  u = with_other p.name q s

  pub is_put : u.pools ≡ put p.serial q s.pools
  is_put = ap (λ (e : EngineState). e.pools) (sym (law.by_serial s p.name p q turns.before turns.here))

  pub one_of : Only p s.pools × (at p.serial s.pools ≡ Some p)
  one_of = only_one s.devices p.name p s.pools turns.before.apart turns.here

  pub at_after : (r : ℕ) → at r u.pools ≡ cond (r == p.serial) (Some q) (at r s.pools)
  at_after r = ap (at r) is_put ∙ (put_at p.serial r q s.pools turns.serial ∙ ap (λ o. cond (r == p.serial) (option_map (λ x. q) o) (at r s.pools)) one_of.1)

  pub stopped_after : (r : ℕ) → at r (halted_pools u.pools) ≡ cond (r == p.serial) (stopped_in (Some q)) (at r (halted_pools s.pools))
  stopped_after r =
      found_halted s.devices r u.pools turns.after.apart ∙ (ap stopped_in (at_after r) ∙ (through (r == p.serial) (Some q) (at r s.pools)
      ∙ ap (λ o. cond (r == p.serial) (stopped_in (Some q)) o) (sym (found_halted s.devices r s.pools turns.before.apart))))

  own_stopped : at p.serial (halted_pools s.pools) ≡ stopped_in (Some p)
  own_stopped = found_halted s.devices p.serial s.pools turns.before.apart ∙ ap stopped_in one_of.1

  same_use : (path : Text) (ps : List PoolState) → Only p ps → AllByRecursion (λ (x : PoolState). (x.serial == p.serial) ≡ true → is_used path (known x) ≡ is_used path (known q)) ps
  same_use path [] h = tt
  same_use path (x ∷ ps) h = (λ e. ap (λ z. is_used path (known z)) (h.0 e) ∙ (uses_known path p ∙ (sym (turns.uses_same path) ∙ sym (uses_known path q))), same_use path ps h.1)

  pub used_after : (path : Text) → used path u.pools ≡ used path s.pools
  used_after path = ap (used path) is_put ∙ put_used path p.serial q s.pools (same_use path s.pools one_of.0)

  known_after : (r : ℕ) → is_some (at r u.pools) ≡ is_some (at r s.pools)
  known_after r = ap is_some (at_after r) ∙ here (r == p.serial) refl
    where
      here : (c : Bool) → (r == p.serial) ≡ c → is_some (cond c (Some q) (at r s.pools)) ≡ is_some (at r s.pools)
      here true e = sym (ap is_some (subst (λ n. at n s.pools ≡ Some p) (sym (same_number r p.serial e)) one_of.1))
      here false e = refl

  -- a pool that was started lacks no device
  not_lacking : is_started p.mode ≡ true → (missing : Text) → q.mode ≡ Incomplete missing → ⊥
  not_lacking up missing is =
      let there_q : AreThere s.devices q q.mode = all_found (λ (x : PoolState). AreThere s.devices x x.mode) p.serial q u.pools turns.after.there (at_after p.serial ∙ ap (λ b. cond b (Some q) (at p.serial s.pools)) (self_number p.serial)) in
      let there_p : AreThere s.devices p p.mode = all_found (λ (x : PoolState). AreThere s.devices x x.mode) p.serial p s.pools turns.before.there one_of.1 in
      let one = lacks_one s.devices q missing (subst (AreThere s.devices q) is there_q) in
      let on : is_there s.devices missing ≡ true = uses_there s.devices p missing p.mode refl (whole p.mode up) there_p (sym (turns.uses_same missing) ∙ one.0) in
      let off : is_there s.devices missing ≡ false = one.1 in
      absurd cc
    where
      whole : (m : PoolMode) → is_started m ≡ true → lacks m ≡ false
      whole Up e = refl
      whole (Down call) e = refl
      whole Stopped e = absurd cc
      whole (Unsettled call) e = absurd cc
      whole (Incomplete path) e = absurd cc

  pub claimed_after : (r : ℕ) → IsClaimed (table_of u) r → IsClaimed (table_of s) r
  claimed_after r (inl e) = inl (known_at r s.pools ∙ (sym (known_after r) ∙ (sym (known_at r u.pools) ∙ e)))
  claimed_after r (inr e) = inr e

  pub free_after : (devs : Devices) → AreTheFree (table_of s) devs → AreTheFree (table_of u) devs
  free_after devs h path = h path ∙ ap (λ b. cond b None (option_map size_of (row_of path s.devices))) (sym (used_after path))

  pub settled_after : (devs : Devices) (at : State) → AreFreeFor (table_of s) devs at → AreFreeFor (table_of u) devs at
  settled_after devs at h path n has =
      let f = h path n has in
      record { settled = f.settled; alone = f.alone; silent = λ place lt r c. f.silent place lt r (claimed_after r c) }

  module _ {D : Type 0} (devs : D → Devices) (moment : D → ℕ) (state_at : D → ℕ → State) (free : D) (halted : List (HaltedView D))
      (up : is_started p.mode ≡ true) (keeps : KeepsTable devs moment state_at (table_of s) free halted) where
    abbrev Fit : Option PoolState → Option (HaltedView D) → Type 0
    Fit = Fits devs moment state_at

    not_there : at p.serial (halted_pools s.pools) ≡ None
    not_there = own_stopped ∙ ap (λ b. cond b None (Some p)) up

    same_at : is_started q.mode ≡ true → (r : ℕ) → at r (halted_pools u.pools) ≡ at r (halted_pools s.pools)
    same_at up_after r = stopped_after r ∙ by (r == p.serial) refl
      where
        by : (c : Bool) → (r == p.serial) ≡ c → cond c (stopped_in (Some q)) (at r (halted_pools s.pools)) ≡ at r (halted_pools s.pools)
        by true e = ap (λ b. cond b None (Some q)) up_after ∙ sym (subst (λ n. at n (halted_pools s.pools) ≡ None) (sym (same_number r p.serial e)) not_there)
        by false e = refl

    pub lacks_other : is_started q.mode ≡ true → ((r : ℕ) → HasOthers devs s.devices (at r (halted_pools s.pools)) (halted_at r halted)) → (r : ℕ) → HasOthers devs s.devices (at r (halted_pools u.pools)) (halted_at r halted)
    lacks_other up_after was r = subst (λ o. HasOthers devs s.devices o (halted_at r halted)) (sym (same_at up_after r)) (was r)

    pub keeps_other : is_started q.mode ≡ true → KeepsTable devs moment state_at (table_of u) free halted
    keeps_other up_after = record {
      the_free = free_after (devs free) keeps.the_free;
      settled = settled_after (devs free) (now moment state_at free) keeps.settled;
      are_halted = record {
        each = λ r. subst (λ o. Fit o (halted_at r halted)) (sym (same_at up_after r)) (keeps.are_halted.each r);
        once = keeps.are_halted.once;
        count = let more = counts in let same = keeps.are_halted.count in omega (arith, more, same);
      };
    }
      where
        counts : length (halted_pools u.pools) + 0 ≡ length (halted_pools s.pools) + 0
        counts = ap (λ ps. length (halted_pools ps) + 0) is_put ∙ (ap (λ b. length (halted_pools (put p.serial q s.pools)) + one (not b)) (sym up)
            ∙ (count_put s.devices p.serial p q s.pools turns.before.apart one_of.1 ∙ ap (λ b. length (halted_pools s.pools) + one (not b)) up_after))

    none_fits : (o : Option (HaltedView D)) → Fit None o → o ≡ None
    none_fits None f = refl
    none_fits (Some x) f = absurd f

    module _ (h : HaltedView D) (halts : Halts devs moment state_at q h) where
      own : h.serial ≡ p.serial
      own = halts.serial ∙ turns.serial

      fresh : halted_at h.serial halted ≡ None
      fresh = none_fits (halted_at h.serial halted) (subst (λ o. Fit o (halted_at h.serial halted)) (subst (λ n. at n (halted_pools s.pools) ≡ None) (sym own) not_there) (keeps.are_halted.each h.serial))

      after_is : stopped_in (Some q) ≡ Some q
      after_is = ap (λ b. cond b None (Some q)) halts.idle

      -- what is so of both at each serial
      at_each : (F : Option PoolState → Option (HaltedView D) → Type 0) → F (Some q) (Some h) → ((r : ℕ) → F (at r (halted_pools s.pools)) (halted_at r halted)) → (r : ℕ) → F (at r (halted_pools u.pools)) (halted_at r (halted ++ h ∷ []))
      at_each F here was r = subst (λ o. F o (halted_at r (halted ++ h ∷ []))) (sym (stopped_after r))
          (subst (λ o. F (cond (r == p.serial) (stopped_in (Some q)) (at r (halted_pools s.pools))) o) (sym (last_of (λ (x : HaltedView D). x.serial) r h halted fresh))
          (subst (λ n. F (cond (r == p.serial) (stopped_in (Some q)) (at r (halted_pools s.pools))) (cond (r == n) (Some h) (halted_at r halted))) (sym own) (by (r == p.serial))))
        where
          by : (c : Bool) → F (cond c (stopped_in (Some q)) (at r (halted_pools s.pools))) (cond c (Some h) (halted_at r halted))
          by true = subst (λ o. F o (Some h)) (sym after_is) here
          by false = was r

      pub lacks_stopped : ((r : ℕ) → HasOthers devs s.devices (at r (halted_pools s.pools)) (halted_at r halted)) → (r : ℕ) → HasOthers devs s.devices (at r (halted_pools u.pools)) (halted_at r (halted ++ h ∷ []))
      lacks_stopped was r = at_each (HasOthers devs s.devices) (λ missing is. absurd (not_lacking up missing is)) was r

      length_last : (xs : List (HaltedView D)) → length (xs ++ h ∷ []) ≡ length xs + 1
      length_last [] = refl
      length_last (x ∷ xs) = let rest = length_last xs in omega (arith, rest)

      counts : length (halted_pools u.pools) + 0 ≡ length (halted_pools s.pools) + 1
      counts = ap (λ ps. length (halted_pools ps) + 0) is_put ∙ (ap (λ b. length (halted_pools (put p.serial q s.pools)) + one (not b)) (sym up)
          ∙ (count_put s.devices p.serial p q s.pools turns.before.apart one_of.1 ∙ ap (λ b. length (halted_pools s.pools) + one (not b)) halts.idle))

      pub keeps_stopped : KeepsTable devs moment state_at (table_of u) free (halted ++ h ∷ [])
      keeps_stopped = record {
        the_free = free_after (devs free) keeps.the_free;
        settled = settled_after (devs free) (now moment state_at free) keeps.settled;
        are_halted = record {
          each = at_each Fit halts keeps.are_halted.each;
          once = apart_last (λ (x : HaltedView D). x.serial) h halted fresh keeps.are_halted.once;
          count = let more = counts in let same = keeps.are_halted.count in let longer = length_last halted in omega (arith, more, same, longer);
        };
      }
