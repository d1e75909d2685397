-- The pool that is out is known no more.
use Rattle.std.proofs.Common.{◌≡◌, ℕ, ◌≤◌, ◌+◌, min, arith, length, Bool, true, false, cond, not, Option, Some, None, is_some, refl, sym, ap, subst, ◌∙◌}
use Rattle.std.specs.Prelude.{option_map, ◌==◌}
use Rattle.st_units.specs.declared.rows.DevRow.{DevRow}
use Rattle.st_units.specs.Roomy.{Roomy}
use Rattle.st_model.specs.declared.state.PoolState.{PoolState}
use Rattle.st_model.specs.declared.state.TableState.{TableState}
use Rattle.st_model.specs.Look.{is_started, row_of}
use Rattle.st_model.specs.Parts.{is_used, known, table_of}
use Rattle.st_model.specs.Shown.{halted_pools}
use Rattle.st_rack.specs.Device.{Path, State}
use Rattle.st_rack.specs.Calls.{Devices, Has, Rises, sectors_of}
use Rattle.st_rack.specs.Parts.{Joins}
use Rattle.st_table.specs.Stands.{Stands}
use Rattle.st_table.specs.Table.{TableView}
use Rattle.st_pool.specs.Halts.{HaltedView}
use Rattle.st_board.specs.Holds.{Fits, HasOthers, Holds, KeepsTable, halted_at, stopped_at}
use Rattle.st_board.specs.Changes.{without}
use Rattle.st_board.specs.View.{last}
use Rattle.st_board.proofs.Serials.{at, count_but, one, same_number, used, used_own, uses_known}
use Rattle.st_board.proofs.Counting.{no_more}
use Rattle.st_board.proofs.Going.{one_of, settled, stopped_after, the_free}
use Rattle.st_lent.specs.Lent.{HasVanished, HoldsBut, KeepsBut}

abbrev size_of : DevRow → ℕ
size_of row = row.sectors

there_in : (o : Option DevRow) (n : ℕ) → option_map size_of o ≡ Some n → is_some o ≡ true
there_in None n e = absurd cc
there_in (Some row) n e = refl

free_off : (b : Bool) (o : Option ℕ) → b ≡ true → is_some (cond b None o) ≡ false
free_off true o e = refl
free_off false o e = absurd cc

free_there : (b : Bool) (o : Option DevRow) (n : ℕ) → cond b None (option_map size_of o) ≡ Some n → is_some o ≡ true
free_there true o n e = absurd cc
free_there false o n e = there_in o n e

module _ {D : Type 0} (devs : D → Devices) (moment : D → ℕ) (state_at : D → ℕ → State) (faults spare : D → ℕ) (out : ℕ) (old : TableView) (free : D) (halted : Roomy (HaltedView D)) (past : ℕ) (t u : TableState)
    (h : HoldsBut devs moment state_at faults spare out old free halted past t) (rack : D) (gone : HasVanished devs moment state_at t u out rack) where
  abbrev p : PoolState
  p = gone.pool

  was : KeepsBut devs moment state_at out (table_of gone.state) free halted.items
  was = subst (λ (x : TableState). KeepsBut devs moment state_at out x free halted.items) (sym gone.was) h.keeps

  places : length gone.state.devices ≤ spare free + length (devs free)
  places = subst (λ (x : TableState). length x.devices ≤ spare free + length (devs free)) (sym gone.was) h.places

  -- the free ones have no device of the pool's
  pub apart_from : (d : Path) (n : ℕ) → Has (devs rack) d n → is_some (sectors_of (devs free) d) ≡ false
  apart_from d n has =
      let uses_it : is_used d (known p) ≡ true = uses_known d p ∙ gone.freed.own d n has in
      ap is_some (was.the_free d) ∙ free_off (used d gone.state.pools) (option_map size_of (row_of d gone.state.devices)) (used_own d p.name p gone.state.pools gone.goes.here uses_it)

  -- all have a place on the rack of the free ones
  pub place_for : Rises (devs free) → Rises (devs rack) → length (devs rack) ≤ spare free
  place_for rf rr =
      let most = no_more gone.state.devices (devs rack) (devs free) rr rf (λ d n has. there_in (row_of d gone.state.devices) n (gone.freed.sizes d n has))
      (λ d n has. free_there (used d gone.state.pools) (row_of d gone.state.devices) n (sym (was.the_free d) ∙ has)) apart_from in
      let all = places in
      omega (arith, most, all)

  abbrev after : TableState
  after = table_of (without p gone.state)

  -- what is so of both at each serial
  at_each : (F : Option PoolState → Option (HaltedView D) → Type 0) → F None None → ((r : ℕ) → (r == out) ≡ false → F (stopped_at r (table_of gone.state).stopped) (halted_at r halted.items)) → (r : ℕ) → F (stopped_at r after.stopped) (halted_at r halted.items)
  at_each F none others r = subst (λ (o : Option PoolState). F o (halted_at r halted.items)) (sym (stopped_after devs moment state_at gone.state p gone.goes rack gone.freed r)) (by (r == p.serial) refl)
    where
      by : (b : Bool) → (r == p.serial) ≡ b → F (cond b None (at r (halted_pools gone.state.pools))) (halted_at r halted.items)
      by true e = subst (F None) (sym (ap (λ (n : ℕ). halted_at n halted.items) (same_number r p.serial e ∙ gone.serial) ∙ h.keeps.others.none)) none
      by false e = others r (subst (λ (n : ℕ). (r == n) ≡ false) gone.serial e)

  counts : length halted.items ≡ length after.stopped
  counts =
      let changed = count_but gone.state.devices p.serial p gone.state.pools gone.goes.before.apart (one_of devs moment state_at gone.state p gone.goes rack gone.freed).1 in
      let was_out : one (not (is_started p.mode)) ≡ 1 = ap (λ (b : Bool). one (not b)) gone.halted in
      let count = was.others.count in
      omega (arith, changed, was_out, count)

  module _ (joined : D) (joins : Joins devs moment state_at free rack joined) where
    keeps : KeepsTable devs moment state_at after joined halted.items
    keeps = record {
      the_free = λ d. the_free devs moment state_at gone.state p gone.goes rack gone.freed free joined joins was.the_free d (sectors_of (devs rack) d) refl;
      settled = λ d n has. settled devs moment state_at gone.state p gone.goes rack gone.freed free joined joins was.settled d (sectors_of (devs rack) d) refl n has;
      are_halted = record { each = at_each (Fits devs moment state_at) tt was.others.each; once = was.others.once; count = counts };
    }

    pub holds_vanished : (table : TableView) (count total : ℕ) → Stands table u → spare free ≤ spare joined + length (devs rack)
        → faults joined ≡ min (faults free + faults rack) last → count ≤ faults rack → total ≡ min (past + count) last → Holds devs moment state_at faults spare table joined halted total u
    holds_vanished table count total stands room risen counted total_is = record {
      whole = without p gone.state;
      valid = gone.goes.after;
      is = gone.is;
      tells = stands;
      keeps = subst (λ (x : TableState). KeepsTable devs moment state_at x joined halted.items) gone.is keeps;
      lacking = subst (λ (x : TableState). (r : ℕ) → HasOthers devs x.devices (stopped_at r x.stopped) (halted_at r halted.items)) gone.is (at_each (HasOthers devs gone.state.devices) tt was.lacking);
      counted = let before = h.counted in omega (arith, before, counted, total_is, risen);
      places =
          let before = places in
          let more = joins.count in
          let all : length gone.state.devices ≤ spare joined + length (devs joined) = omega (arith, before, more, room) in
          subst (λ (x : TableState). length x.devices ≤ spare joined + length (devs joined)) gone.is all;
      room = h.room;
    }
