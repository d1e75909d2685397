-- One of the pools that aren't started is taken out.
use Rattle.std.proofs.Common.{◌≡◌, ℕ, ◌+◌, arith, length, Bool, false, cond, remove, Option, Some, None, refl, sym, ap, subst, ◌∙◌}
use Rattle.std.specs.Prelude.{slice_get, ◌==◌}
use Rattle.st_units.specs.Roomy.{Roomy}
use Rattle.st_model.specs.declared.state.PoolState.{PoolState}
use Rattle.st_model.specs.declared.state.TableState.{TableState}
use Rattle.st_rack.specs.Device.{State}
use Rattle.st_rack.specs.Calls.{Devices}
use Rattle.st_table.specs.Table.{TableView}
use Rattle.st_pool.specs.Halts.{Halts, HaltedView}
use Rattle.st_board.specs.Holds.{Fits, HasOthers, Holds, halted_at, stopped_at}
use Rattle.st_board.proofs.Serials.{self_number}
use Rattle.st_lent.specs.Lent.{HoldsBut}
use Rattle.st_lent.proofs.Places.{found_own, removed_apart, removed_at, removed_count}

module _ {D : Type 0} (devs : D → Devices) (moment : D → ℕ) (state_at : D → ℕ → State) (faults spare : D → ℕ) (table : TableView) (free : D) (halted : Roomy (HaltedView D)) (past : ℕ) (t : TableState)
    (h : Holds devs moment state_at faults spare table free halted past t) (place : ℕ) (x : HaltedView D) (at : slice_get halted.items place ≡ Some x) where
  abbrev serial_of : HaltedView D → ℕ
  serial_of y = y.serial

  some_fits : (o : Option PoolState) → Fits devs moment state_at o (Some x) → (p : PoolState) × (o ≡ Some p) × Halts devs moment state_at p x
  some_fits None f = absurd f
  some_fits (Some p) f = (p, refl, f)

  -- it stands for a pool of the table
  pub halts_one : (p : PoolState) × (stopped_at x.serial t.stopped ≡ Some p) × Halts devs moment state_at p x
  halts_one = some_fits (stopped_at x.serial t.stopped) (subst (Fits devs moment state_at (stopped_at x.serial t.stopped)) (found_own serial_of place x halted.items h.keeps.are_halted.once at) (h.keeps.are_halted.each x.serial))

  left_at : (r : ℕ) → halted_at r (remove halted.items place) ≡ cond (r == x.serial) None (halted_at r halted.items)
  left_at r = removed_at serial_of r place x halted.items h.keeps.are_halted.once at

  other_at : (r : ℕ) → (r == x.serial) ≡ false → halted_at r (remove halted.items place) ≡ halted_at r halted.items
  other_at r off = left_at r ∙ ap (λ (b : Bool). cond b None (halted_at r halted.items)) off

  -- the others are kept
  pub holds_but : (left : Roomy (HaltedView D)) → left.items ≡ remove halted.items place → left.room ≡ halted.room + 1 → HoldsBut devs moment state_at faults spare x.serial table free left past t
  holds_but left items room = record {
    whole = h.whole;
    valid = h.valid;
    is = h.is;
    tells = h.tells;
    keeps = subst (Rattle.st_lent.specs.Lent.KeepsBut devs moment state_at x.serial t free) (sym items) (record {
      the_free = h.keeps.the_free;
      settled = h.keeps.settled;
      others = record {
        each = λ r off. subst (Fits devs moment state_at (stopped_at r t.stopped)) (sym (other_at r off)) (h.keeps.are_halted.each r);
        none = left_at x.serial ∙ ap (λ (b : Bool). cond b None (halted_at x.serial halted.items)) (self_number x.serial);
        once = removed_apart serial_of halted.items place h.keeps.are_halted.once;
        count = removed_count serial_of x halted.items place at ∙ h.keeps.are_halted.count;
      };
      lacking = λ r off. subst (HasOthers devs t.devices (stopped_at r t.stopped)) (sym (other_at r off)) (h.lacking r);
    });
    counted = h.counted;
    places = h.places;
    room =
        let was = h.room in
        let fewer = removed_count serial_of x halted.items place at in
        let same : length left.items ≡ length (remove halted.items place) = ap length items in
        omega (arith, was, fewer, same, room);
  }
