-- The pool that is out comes back.
use Rattle.std.proofs.Common.{◌≡◌, ℕ, ◌<◌, ◌≤◌, ◌+◌, arith, length, List, [], ◌∷◌, ◌++◌, Bool, true, false, cond, not, Option, Some, None, refl, sym, ap, subst, ◌∙◌}
use Rattle.std.specs.Prelude.{◌==◌}
use Rattle.st_units.specs.Roomy.{Roomy}
use Rattle.st_model.specs.declared.state.PoolState.{PoolState}
use Rattle.st_model.specs.declared.state.TableState.{TableState}
use Rattle.st_model.specs.Look.{is_started}
use Rattle.st_model.specs.Shown.{halted_pools}
use Rattle.st_model.specs.Step.{can_start}
use Rattle.st_rack.specs.Device.{State}
use Rattle.st_rack.specs.Calls.{Devices}
use Rattle.st_table.specs.Table.{TableView}
use Rattle.st_pool.specs.Halts.{HaltedView}
use Rattle.st_board.specs.Holds.{Fits, HasOthers, Holds, KeepsTable, halted_at, stopped_at}
use Rattle.st_board.proofs.Serials.{same_number}
use Rattle.st_board.proofs.Halted.{apart_last, last_of}
use Rattle.st_lent.specs.Lent.{HoldsBut, IsTheOne}

few : (ps : List PoolState) → length (halted_pools ps) ≤ length ps
few [] = omega arith
few (x ∷ ps) = here (not (is_started x.mode)) (few ps)
  where
    here : (a : Bool) → length (halted_pools ps) ≤ length ps → length (cond a (x ∷ halted_pools ps) (halted_pools ps)) ≤ length (x ∷ ps)
    here true le = omega (arith, le)
    here false le = omega (arith, le)

found_serial : (q : ℕ) (ps : List PoolState) (p : PoolState) → stopped_at q ps ≡ Some p → p.serial ≡ q
found_serial q [] p e = absurd cc
found_serial q (x ∷ ps) p e = by (x.serial == q) refl e (found_serial q ps p)
  where
    by : (b : Bool) → (x.serial == q) ≡ b → cond b (Some x) (stopped_at q ps) ≡ Some p → (stopped_at q ps ≡ Some p → p.serial ≡ q) → p.serial ≡ q
    by true k f rest = let same : x ≡ p = cc in subst (λ (y : PoolState). y.serial ≡ q) same (same_number x.serial q k)
    by false k f rest = rest f

length_last : {A : Type 0} (xs : List A) (x : A) → length (xs ++ x ∷ []) ≡ length xs + 1
length_last [] x = refl
length_last (y ∷ ys) x = let rest = length_last ys x in omega (arith, rest)

module _ {D : Type 0} (devs : D → Devices) (moment : D → ℕ) (state_at : D → ℕ → State) (faults spare : D → ℕ) (out : ℕ) (table : TableView) (free : D) (halted : Roomy (HaltedView D)) (past : ℕ) (t : TableState)
    (h : HoldsBut devs moment state_at faults spare out table free halted past t) where
  -- there is a place for it
  pub place_kept : 0 < halted.room
  place_kept =
      let fewer = few h.whole.pools in
      let count = h.valid.count in
      let same : length (halted_pools h.whole.pools) ≡ length t.stopped = ap (λ (x : TableState). length x.stopped) h.is in
      let one = h.keeps.others.count in
      let room = h.room in
      omega (arith, fewer, count, same, one, room)

  module _ (x : HaltedView D) (one : IsTheOne devs moment state_at out t x) where
    own : x.serial ≡ out
    own = one.halts.serial ∙ found_serial out t.stopped one.pool one.here

    fresh : halted_at x.serial halted.items ≡ None
    fresh = subst (λ (n : ℕ). halted_at n halted.items ≡ None) (sym own) h.keeps.others.none

    -- what is so of both at each serial
    at_each : (F : Option PoolState → Option (HaltedView D) → Type 0) → F (Some one.pool) (Some x) → ((r : ℕ) → (r == out) ≡ false → F (stopped_at r t.stopped) (halted_at r halted.items)) → (r : ℕ) → F (stopped_at r t.stopped) (halted_at r (halted.items ++ x ∷ []))
    at_each F here others r = subst (F (stopped_at r t.stopped)) (sym (last_of (λ (y : HaltedView D). y.serial) r x halted.items fresh)) (by (r == x.serial) refl)
      where
        by : (b : Bool) → (r == x.serial) ≡ b → F (stopped_at r t.stopped) (cond b (Some x) (halted_at r halted.items))
        by true e = subst (λ (o : Option PoolState). F o (Some x)) (sym (ap (λ (n : ℕ). stopped_at n t.stopped) (same_number r x.serial e ∙ own) ∙ one.here)) here
        by false e = others r (subst (λ (n : ℕ). (r == n) ≡ false) own e)

    lacks_none : HasOthers devs t.devices (Some one.pool) (Some x)
    lacks_none missing is = absurd (let can = one.can in let no_start : can_start one.pool.mode ≡ false = ap can_start is in cc)

    pub holds_back : (more : Roomy (HaltedView D)) → more.items ≡ halted.items ++ x ∷ [] → halted.room ≤ more.room + 1 → Holds devs moment state_at faults spare table free more past t
    holds_back more items room = record {
      whole = h.whole;
      valid = h.valid;
      is = h.is;
      tells = h.tells;
      keeps = subst (KeepsTable devs moment state_at t free) (sym items) (record {
        the_free = h.keeps.the_free;
        settled = h.keeps.settled;
        are_halted = record {
          each = at_each (Fits devs moment state_at) one.halts h.keeps.others.each;
          once = apart_last (λ (y : HaltedView D). y.serial) x halted.items fresh h.keeps.others.once;
          count = length_last halted.items x ∙ h.keeps.others.count;
        };
      });
      lacking = subst (λ (hs : List (HaltedView D)). (r : ℕ) → HasOthers devs t.devices (stopped_at r t.stopped) (halted_at r hs)) (sym items) (at_each (HasOthers devs t.devices) lacks_none h.keeps.lacking);
      counted = h.counted;
      places = h.places;
      room =
          let longer = length_last halted.items x in
          let same : length more.items ≡ length (halted.items ++ x ∷ []) = ap length items in
          let was = h.room in
          omega (arith, longer, same, was, room);
    }
