-- The pool that is out is started.
use Rattle.std.proofs.Common.{◌≡◌, ℕ, ◌≤◌, ◌+◌, arith, length, List, Bool, true, false, cond, not, Option, Some, None, refl, sym, ap, subst, ◌∙◌}
use Rattle.std.specs.Prelude.{◌==◌}
use Rattle.st_units.specs.Roomy.{Roomy}
use Rattle.st_model.specs.declared.state.PoolState.{PoolState}
use Rattle.st_model.specs.declared.state.TableState.{TableState}
use Rattle.st_model.specs.Look.{is_started}
use Rattle.st_model.specs.Parts.{table_of}
use Rattle.st_model.specs.Shown.{halted_pools}
use Rattle.st_rack.specs.Device.{State}
use Rattle.st_rack.specs.Calls.{Devices}
use Rattle.st_table.specs.Stands.{Stands}
use Rattle.st_table.specs.Steps.{StepsPut, with_other}
use Rattle.st_table.specs.Table.{TableView}
use Rattle.st_pool.specs.Halts.{HaltedView}
use Rattle.st_pool.specs.View.{now}
use Rattle.st_board.specs.Holds.{Fits, HasOthers, Holds, KeepsTable, halted_at, stopped_at}
use Rattle.st_board.proofs.Serials.{at, count_put, one, put, same_number, stopped_in}
use Rattle.st_board.proofs.Changing.{free_after, is_put, one_of, settled_after, stopped_after}
use Rattle.st_lent.specs.Lent.{HasWoken, HoldsBut, KeepsBut}

module _ {D : Type 0} (devs : D → Devices) (moment : D → ℕ) (state_at : D → ℕ → State) (faults spare : D → ℕ) (out : ℕ) (old : TableView) (free : D) (halted : Roomy (HaltedView D)) (past : ℕ) (t u : TableState)
    (h : HoldsBut devs moment state_at faults spare out old free halted past t) (law : StepsPut) (woken : HasWoken t u out) where
  abbrev p : PoolState
  p = woken.pool

  abbrev q : PoolState
  q = woken.new

  was : KeepsBut devs moment state_at out (table_of woken.state) free halted.items
  was = subst (λ (x : TableState). KeepsBut devs moment state_at out x free halted.items) (sym woken.was) h.keeps

  abbrev after : TableState
  after = table_of (with_other p.name q woken.state)

  no_more : stopped_in (Some q) ≡ None
  no_more = ap (λ (b : Bool). cond b None (Some q)) woken.up

  -- what is so of both at each serial
  at_each : (F : Option PoolState → Option (HaltedView D) → Type 0) → F None None → ((r : ℕ) → (r == out) ≡ false → F (stopped_at r (table_of woken.state).stopped) (halted_at r halted.items)) → (r : ℕ) → F (stopped_at r after.stopped) (halted_at r halted.items)
  at_each F none others r = subst (λ (o : Option PoolState). F o (halted_at r halted.items)) (sym (stopped_after law woken.state p q woken.turns r)) (by (r == p.serial) refl)
    where
      by : (b : Bool) → (r == p.serial) ≡ b → F (cond b (stopped_in (Some q)) (at r (halted_pools woken.state.pools))) (halted_at r halted.items)
      by true e =
          let gone : halted_at r halted.items ≡ None = ap (λ (n : ℕ). halted_at n halted.items) (same_number r p.serial e ∙ woken.serial) ∙ h.keeps.others.none in
          subst (λ (o : Option PoolState). F o (halted_at r halted.items)) (sym no_more) (subst (F None) (sym gone) none)
      by false e = others r (subst (λ (n : ℕ). (r == n) ≡ false) woken.serial e)

  counts : length halted.items ≡ length after.stopped
  counts =
      let changed = count_put woken.state.devices p.serial p q woken.state.pools woken.turns.before.apart (one_of law woken.state p q woken.turns).1 in
      let was_out : one (not (is_started p.mode)) ≡ 1 = ap (λ (b : Bool). one (not b)) woken.halted in
      let is_up : one (not (is_started q.mode)) ≡ 0 = ap (λ (b : Bool). one (not b)) woken.up in
      let same : length after.stopped ≡ length (halted_pools (put p.serial q woken.state.pools)) = ap (λ (ps : List PoolState). length (halted_pools ps)) (is_put law woken.state p q woken.turns) in
      let count = was.others.count in
      omega (arith, changed, was_out, is_up, same, count)

  keeps : KeepsTable devs moment state_at after free halted.items
  keeps = record {
    the_free = free_after law woken.state p q woken.turns (devs free) was.the_free;
    settled = settled_after law woken.state p q woken.turns (devs free) (now moment state_at free) was.settled;
    are_halted = record { each = at_each (Fits devs moment state_at) tt was.others.each; once = was.others.once; count = counts };
  }

  pub holds_woken : (table : TableView) → Stands table u → Holds devs moment state_at faults spare table free halted past u
  holds_woken table stands = record {
    whole = with_other p.name q woken.state;
    valid = woken.turns.after;
    is = woken.is;
    tells = stands;
    keeps = subst (λ (x : TableState). KeepsTable devs moment state_at x free halted.items) woken.is keeps;
    lacking = subst (λ (x : TableState). (r : ℕ) → HasOthers devs x.devices (stopped_at r x.stopped) (halted_at r halted.items)) woken.is (at_each (HasOthers devs woken.state.devices) tt was.lacking);
    counted = h.counted;
    places = subst (λ (x : TableState). length x.devices ≤ spare free + length (devs free)) woken.is (subst (λ (x : TableState). length x.devices ≤ spare free + length (devs free)) (sym woken.was) h.places);
    room = h.room;
  }
