-- What keeps a table, while free devices are split off, for a new pool or not.
use Rattle.std.proofs.Common.{◌≡◌, ◌⊎◌, inl, inr, ℕ, ◌≤◌, ◌+◌, min, arith, length, List, [], ◌∷◌, ◌++◌, Bool, true, false, cond, not, ◌||◌, Option, Some, None, is_some, refl, sym, ap, subst, ◌∙◌}
use Rattle.std.specs.Prelude.{option_map, ◌==◌}
use Rattle.st_limits.specs.declared.TheConstants.{MAX_POOL_SERIAL}
use Rattle.st_units.specs.declared.rows.DevRow.{DevRow}
use Rattle.st_units.specs.Roomy.{Roomy}
use Rattle.st_model.specs.declared.state.EngineState.{EngineState}
use Rattle.st_model.specs.declared.state.PoolState.{PoolState}
use Rattle.st_model.specs.declared.state.TableState.{TableState}
use Rattle.st_model.specs.Look.{Text, is_started, row_of}
use Rattle.st_model.specs.Parts.{is_used, known, table_of}
use Rattle.st_model.specs.Shown.{halted_pools}
use Rattle.st_model.specs.steps.CreatePool.{with_pool}
use Rattle.st_rack.specs.Device.{Path, State}
use Rattle.st_rack.specs.Calls.{Devices, Has, names, sectors_of}
use Rattle.st_rack.specs.Parts.{AreApart, IsSame, Joins, Splits}
use Rattle.st_table.specs.Stands.{Stands}
use Rattle.st_table.specs.Table.{TableView}
use Rattle.st_pool.specs.Halts.{HaltedView}
use Rattle.st_pool.specs.View.{now}
use Rattle.st_board.specs.Free.{IsClaimed, IsFreeFor}
use Rattle.st_board.specs.Holds.{Fits, HasOthers, Holds, KeepsTable, halted_at, stopped_at}
use Rattle.st_board.specs.Changes.{HasAdded}
use Rattle.st_board.specs.View.{last}
use Rattle.st_board.proofs.Serials.{at, known_at, same_number, used, uses_known}
use Rattle.st_board.proofs.Going.{now_own}

abbrev size_of : DevRow → ℕ
size_of row = row.sectors

-- ---- a list with one pool more

used_last : (path : Text) (ps : List PoolState) (q : PoolState) → used path (ps ++ q ∷ []) ≡ (used path ps || is_used path (known q))
used_last path [] q = by (is_used path (known q))
  where
    by : (b : Bool) → (b || false) ≡ b
    by true = refl
    by false = refl
used_last path (x ∷ ps) q = by (is_used path (known x)) (used_last path ps q)
  where
    by : (b : Bool) → used path (ps ++ q ∷ []) ≡ (used path ps || is_used path (known q)) → (b || used path (ps ++ q ∷ [])) ≡ ((b || used path ps) || is_used path (known q))
    by true h = refl
    by false h = h

halted_last : (ps : List PoolState) (q : PoolState) → is_started q.mode ≡ true → halted_pools (ps ++ q ∷ []) ≡ halted_pools ps
halted_last [] q up = ap (λ b. cond (not b) (q ∷ []) []) up
halted_last (x ∷ ps) q up = ap (λ rest. cond (not (is_started x.mode)) (x ∷ rest) rest) (halted_last ps q up)

known_last : (r : ℕ) (ps : List PoolState) (q : PoolState) → is_some (at r (ps ++ q ∷ [])) ≡ true → (is_some (at r ps) ≡ true) ⊎ (r ≡ q.serial)
known_last r [] q e = by (q.serial == r) refl e
  where
    by : (b : Bool) → (q.serial == r) ≡ b → is_some (cond b (Some q) None) ≡ true → (is_some (at r []) ≡ true) ⊎ (r ≡ q.serial)
    by true h k = inr (sym (same_number q.serial r h))
    by false h k = absurd cc
known_last r (x ∷ ps) q e = by (x.serial == r) e (known_last r ps q)
  where
    by : (b : Bool) → is_some (cond b (Some x) (at r (ps ++ q ∷ []))) ≡ true → (is_some (at r (ps ++ q ∷ [])) ≡ true → (is_some (at r ps) ≡ true) ⊎ (r ≡ q.serial)) → (is_some (cond b (Some x) (at r ps)) ≡ true) ⊎ (r ≡ q.serial)
    by true k ih = inl refl
    by false k ih = ih k

or_false : (a b : Bool) → b ≡ false → (a || b) ≡ a
or_false true b e = refl
or_false false b e = e

or_true : (a b : Bool) → b ≡ true → (a || b) ≡ true
or_true true b e = refl
or_true false b e = e

module _ {D : Type 0} (devs : D → Devices) (moment : D → ℕ) (state_at : D → ℕ → State) (faults spare : D → ℕ) (table : TableView) (free : D) (halted : Roomy (HaltedView D)) (past : ℕ) (t : TableState)
    (h : Holds devs moment state_at faults spare table free halted past t) where
  -- a rack that is the same
  pub holds_same : (reads : D → Path → ℕ) (same : D) → IsSame devs moment state_at reads free same → spare free ≤ spare same → faults same ≡ faults free → Holds devs moment state_at faults spare table same halted past t
  holds_same reads same is more counts = record {
    whole = h.whole;
    valid = h.valid;
    is = h.is;
    tells = h.tells;
    keeps = record {
      the_free = λ p. ap (λ (ds : Devices). sectors_of ds p) is.devices ∙ h.keeps.the_free p;
      settled = λ p n has. subst (IsFreeFor t n) (sym (ap (λ (f : ℕ → State). f (moment same) p) is.states ∙ ap (λ k. state_at free k p) is.clock))
          (h.keeps.settled p n (subst (λ (ds : Devices). Has ds p n) is.devices has));
      are_halted = h.keeps.are_halted;
    };
    lacking = h.lacking;
    counted = let was = h.counted in omega (arith, was, counts);
    places = let was = h.places in let count : length (devs same) ≡ length (devs free) = ap length is.devices in omega (arith, was, more, count);
    room = h.room;
  }

  module _ (list : List Path) (rest part : D) (splits : Splits devs moment state_at list free rest part) (more : spare free + length (devs part) ≤ spare rest) where
    now_rest : (p : Path) → names list p ≡ false → now moment state_at rest p ≡ now moment state_at free p
    now_rest p off = ap (λ k. state_at rest k p) splits.clock ∙ splits.states (moment free) p off (omega arith)

    now_part : (p : Path) → names list p ≡ true → now moment state_at part p ≡ now moment state_at free p
    now_part p on = ap (λ k. state_at part k p) splits.clock_gone ∙ splits.states_gone (moment free) p on (omega arith)

    -- which of both has a device
    rest_has : (p : Path) (n : ℕ) → Has (devs rest) p n → (names list p ≡ false) × Has (devs free) p n
    rest_has p n has = by (names list p) refl (sym (splits.stay p) ∙ has)
      where
        by : (b : Bool) → names list p ≡ b → cond b None (sectors_of (devs free) p) ≡ Some n → (names list p ≡ false) × Has (devs free) p n
        by true e k = absurd cc
        by false e k = (e, k)

    part_has : (p : Path) (n : ℕ) → Has (devs part) p n → (names list p ≡ true) × Has (devs free) p n
    part_has p n has = by (names list p) refl (sym (splits.go p) ∙ has)
      where
        by : (b : Bool) → names list p ≡ b → cond b (sectors_of (devs free) p) None ≡ Some n → (names list p ≡ true) × Has (devs free) p n
        by true e k = (e, k)
        by false e k = absurd cc

    pub parts_apart : AreApart devs rest part
    parts_apart p n has = ap is_some (splits.stay p ∙ ap (λ b. cond b None (sectors_of (devs free) p)) (part_has p n has).0)

    pub place_back : length (devs part) ≤ spare rest
    place_back = omega (arith, more)

    -- the part joins the rest again
    pub holds_back : (joined : D) → Joins devs moment state_at rest part joined → spare rest ≤ spare joined + length (devs part) → faults rest ≡ faults free → faults part ≡ 0 → faults joined ≡ min (faults rest + faults part) last → past ≤ last
        → Holds devs moment state_at faults spare table joined halted past t
    holds_back joined joins room counts none total small = record {
      whole = h.whole;
      valid = h.valid;
      is = h.is;
      tells = h.tells;
      keeps = record {
        the_free = λ p. devices_back p (sectors_of (devs part) p) refl ∙ h.keeps.the_free p;
        settled = λ p n has. states_back p n (sectors_of (devs part) p) refl has;
        are_halted = h.keeps.are_halted;
      };
      lacking = h.lacking;
      counted = let was = h.counted in omega (arith, was, counts, none, total, small);
      places = let was = h.places in let two = joins.count in let one = splits.count in omega (arith, was, more, room, two, one);
      room = h.room;
    }
      where
        devices_back : (p : Path) (o : Option ℕ) → sectors_of (devs part) p ≡ o → sectors_of (devs joined) p ≡ sectors_of (devs free) p
        devices_back p (Some n) e = joins.others p n e ∙ sym (part_has p n e).1
        devices_back p None e = joins.own p (ap is_some e) ∙ (splits.stay p ∙ by (names list p) (sym (splits.go p) ∙ e))
          where
            by : (b : Bool) → cond b (sectors_of (devs free) p) None ≡ None → cond b None (sectors_of (devs free) p) ≡ sectors_of (devs free) p
            by true k = sym k
            by false k = refl

        states_back : (p : Path) (n : ℕ) (o : Option ℕ) → sectors_of (devs part) p ≡ o → Has (devs joined) p n → IsFreeFor t n (now moment state_at joined p)
        states_back p n (Some m) e has =
            let f = h.keeps.settled p n (sym (devices_back p (Some m) e) ∙ has) in
            subst (IsFreeFor t n) (sym (joins.states_others (moment joined) p m e (omega arith) ∙ now_part p (part_has p m e).0)) f
        states_back p n None e has =
            let on = rest_has p n (sym (joins.own p (ap is_some e)) ∙ has) in
            subst (IsFreeFor t n) (sym (now_own devs moment state_at rest part joined joins p (ap is_some e) ∙ now_rest p on.0)) (h.keeps.settled p n on.1)

    -- a new pool takes the part
    pub holds_added : (new : TableView) (u : TableState) (q : PoolState) → HasAdded t u list q → Stands new u → faults rest ≡ faults free → Holds devs moment state_at faults spare new rest halted past u
    holds_added new u q added stands counts = record {
      whole = with_pool s q;
      valid = added.after;
      is = added.is;
      tells = stands;
      keeps = subst (λ x. KeepsTable devs moment state_at x rest halted.items) added.is keeps;
      lacking = subst Lack added.is (λ r. subst (λ (ps : List PoolState). HasOthers devs s.devices (at r ps) (halted_at r halted.items)) (sym (halted_last s.pools q added.started)) (subst Lack (sym added.was) h.lacking r));
      counted = let was = h.counted in omega (arith, was, counts);
      places = subst (λ (x : TableState). length x.devices ≤ spare rest + length (devs rest)) added.is places;
      room = h.room;
    }
      where
        s : EngineState
        s = added.state

        Lack : TableState → Type 0
        Lack x = (r : ℕ) → HasOthers devs x.devices (stopped_at r x.stopped) (halted_at r halted.items)

        was : KeepsTable devs moment state_at (table_of s) free halted.items
        was = subst (λ x. KeepsTable devs moment state_at x free halted.items) (sym added.was) h.keeps

        places : length s.devices ≤ spare rest + length (devs rest)
        places =
            let before : length s.devices ≤ spare free + length (devs free) = subst (λ (x : TableState). length x.devices ≤ spare free + length (devs free)) (sym added.was) h.places in
            let count = splits.count in omega (arith, before, more, count)

        used_after : (p : Path) → used p (s.pools ++ q ∷ []) ≡ (used p s.pools || names list p)
        used_after p = used_last p s.pools q ∙ ap (λ b. used p s.pools || b) (uses_known p q ∙ added.uses_these p)

        the_free : (p : Path) (b : Bool) → names list p ≡ b → sectors_of (devs rest) p ≡ cond (used p (s.pools ++ q ∷ [])) None (option_map size_of (row_of p s.devices))
        the_free p true e =
            let all : used p (s.pools ++ q ∷ []) ≡ true = used_after p ∙ or_true (used p s.pools) (names list p) e in
            splits.stay p ∙ (ap (λ b. cond b None (sectors_of (devs free) p)) e ∙ sym (ap (λ b. cond b None (option_map size_of (row_of p s.devices))) all))
        the_free p false e =
            let still : used p (s.pools ++ q ∷ []) ≡ used p s.pools = used_after p ∙ or_false (used p s.pools) (names list p) e in
            splits.stay p ∙ (ap (λ b. cond b None (sectors_of (devs free) p)) e ∙ (was.the_free p ∙ sym (ap (λ b. cond b None (option_map size_of (row_of p s.devices))) still)))

        claimed : (r : ℕ) → IsClaimed (table_of (with_pool s q)) r → IsClaimed (table_of s) r
        claimed r (inl e) = by (known_last r s.pools q (sym (known_at r (s.pools ++ q ∷ [])) ∙ e))
          where
            by : (is_some (at r s.pools) ≡ true) ⊎ (r ≡ q.serial) → IsClaimed (table_of s) r
            by (inl k) = inl (known_at r s.pools ∙ k)
            by (inr k) =
                let own = added.serial in
                let bound : s.next + 1 ≤ MAX_POOL_SERIAL + 1 = added.after.bounded in
                inr (omega (arith, k, own), omega (arith, k, own, bound))
        claimed r (inr e) = let low = e.0 in inr (omega (arith, low), e.1)

        keeps : KeepsTable devs moment state_at (table_of (with_pool s q)) rest halted.items
        keeps = record {
          the_free = λ p. the_free p (names list p) refl;
          settled = λ p n has.
              let on = rest_has p n has in
              let f = was.settled p n on.1 in
              subst (IsFreeFor (table_of (with_pool s q)) n) (sym (now_rest p on.0)) (record { settled = f.settled; alone = f.alone; silent = λ place lt r c. f.silent place lt r (claimed r c) });
          are_halted = record {
            each = λ r. subst (λ (ps : List PoolState). Fits devs moment state_at (at r ps) (halted_at r halted.items)) (sym (halted_last s.pools q added.started)) (was.are_halted.each r);
            once = was.are_halted.once;
            count = was.are_halted.count ∙ ap length (sym (halted_last s.pools q added.started));
          };
        }
