use Rattle.std.proofs.Common.{◌≡◌, ℕ, ◌≤◌, true, Err, sym, ◌∙◌, ap, subst}
use Rattle.st_model.specs.declared.state.PoolState.{PoolState}
use Rattle.st_model.specs.Step.{can_start}
use Rattle.st_rack.specs.Device.{held}
use Rattle.st_slots.specs.declared.spot.SlotFault.{SlotFault}
use Rattle.st_onestart.proofs.Starting.{starts_alone}
use Rattle.st_pool.specs.Halts.{Halts, HaltedView}
use Rattle.st_pool.specs.Starts.{DidStart, HaltsSome}
use Rattle.st_pool.proofs.Idle.{halts_searched, once, searched_keeps, there}
use Rattle.st_pool.proofs.Sooner.{did_before}
use Rattle.st_pool.proofs.Waked.{counted_le, later_le, left_so}
use Rattle.st_pool.proofs.pool.Pool.start.Goals as goal

pub search-requires-clause-distinct : goal.search-requires-clause-distinct
search-requires-clause-distinct g c =
    let B = g.R.Rack.devs in
    let M = g.R.Rack.moment in
    let S = g.R.Rack.state_at in
    let F = g.R.Rack.faults in
    let x = c.halted.inside in
    let h : HaltedView _ = record { serial = x.serial; devs = x.devs; rack = x.rack; flight = x.flight; faults = x.faults } in
    let some = subst (λ (v : HaltedView _). HaltsSome B M S v) (sym c.halted.view_is) c.requires.some in
    once B M S some.0 h some.1 some.2

pub search-requires-clause-there : goal.search-requires-clause-there
search-requires-clause-there g c =
    let B = g.R.Rack.devs in
    let M = g.R.Rack.moment in
    let S = g.R.Rack.state_at in
    let F = g.R.Rack.faults in
    let x = c.halted.inside in
    let h : HaltedView _ = record { serial = x.serial; devs = x.devs; rack = x.rack; flight = x.flight; faults = x.faults } in
    let some = subst (λ (v : HaltedView _). HaltsSome B M S v) (sym c.halted.view_is) c.requires.some in
    there B M S some.0 h some.1 some.2

pub leave-requires : goal.leave-requires
leave-requires g c =
    let B = g.R.Rack.devs in
    let M = g.R.Rack.moment in
    let S = g.R.Rack.state_at in
    let F = g.R.Rack.faults in
    let x = c.halted.inside in
    let h : HaltedView _ = record { serial = x.serial; devs = x.devs; rack = x.rack; flight = x.flight; faults = x.faults } in
    let some = subst (λ (v : HaltedView _). HaltsSome B M S v) (sym c.halted.view_is) c.requires.some in
    let r1 = c.search.new.rack in
    let same = c.search.ensures.devs in
    let time = c.search.ensures.time in
    λ e. counted_le x.faults (F x.rack) (F r1) c.halted.invariant (c.search.ensures.cause (c.in-Err.is ∙ ap (λ (f : SlotFault). Err f) e))

pub settle-requires : goal.settle-requires
settle-requires g c =
    let B = g.R.Rack.devs in
    let M = g.R.Rack.moment in
    let S = g.R.Rack.state_at in
    let F = g.R.Rack.faults in
    let x = c.halted.inside in
    let h : HaltedView _ = record { serial = x.serial; devs = x.devs; rack = x.rack; flight = x.flight; faults = x.faults } in
    let some = subst (λ (v : HaltedView _). HaltsSome B M S v) (sym c.halted.view_is) c.requires.some in
    let r1 = c.search.new.rack in
    let same = c.search.ensures.devs in
    let time = c.search.ensures.time in
    record {
      some = (some.0, halts_searched B M S some.0 h some.1 some.2 r1 same time x.faults, some.2);
      serial = record { from = c.number-number.ensures.first; until = c.number-number.ensures.last };
      rises = c.search.ensures.rises;
      settled = c.in-Ok.ensures.settled;
      found = c.in-Ok.ensures.found;
    }

pub returns-in-Err : goal.returns-in-Err
returns-in-Err g c =
    let B = g.R.Rack.devs in
    let M = g.R.Rack.moment in
    let S = g.R.Rack.state_at in
    let F = g.R.Rack.faults in
    let x = c.halted.inside in
    let h : HaltedView _ = record { serial = x.serial; devs = x.devs; rack = x.rack; flight = x.flight; faults = x.faults } in
    let r1 = c.search.new.rack in
    let same = c.search.ensures.devs in
    let time = c.search.ensures.time in
    subst (λ (v : HaltedView _). (pool : PoolState) → Halts B M S pool v → can_start pool.mode ≡ true → DidStart B M S F pool v c.leave.result) c.halted.view_is
    (λ pool halts can. (
    let keeps = searched_keeps B M S pool h halts can r1 same time in
    subst (λ (r : _). DidStart B M S F pool h r) (sym c.leave.ensures)
    (left_so B M S F starts_alone pool h halts can c.halted.invariant c.in-Err.fault r1 x.flight same keeps (halts_searched B M S pool h halts can r1 same time) c.search.ensures.faults (λ e. c.search.ensures.cause (c.in-Err.is ∙ ap (λ (f : SlotFault). Err f) e)))))

pub returns-in-Ok : goal.returns-in-Ok
returns-in-Ok g c =
    let B = g.R.Rack.devs in
    let M = g.R.Rack.moment in
    let S = g.R.Rack.state_at in
    let F = g.R.Rack.faults in
    let x = c.halted.inside in
    let h : HaltedView _ = record { serial = x.serial; devs = x.devs; rack = x.rack; flight = x.flight; faults = x.faults } in
    let r1 = c.search.new.rack in
    let same = c.search.ensures.devs in
    let time = c.search.ensures.time in
    subst (λ (v : HaltedView _). (pool : PoolState) → Halts B M S pool v → can_start pool.mode ≡ true → DidStart B M S F pool v c.settle.result) c.halted.view_is
    (λ pool halts can. (
    let keeps = searched_keeps B M S pool h halts can r1 same time in
    did_before B M S F pool h r1 same (λ i d. c.search.ensures.holds d i) keeps c.search.ensures.faults c.settle.result
    (c.settle.ensures pool (halts_searched B M S pool h halts can r1 same time x.faults) can)))

pub invariant_of-leave : goal.invariant_of-leave
invariant_of-leave g c =
    let B = g.R.Rack.devs in
    let M = g.R.Rack.moment in
    let S = g.R.Rack.state_at in
    let F = g.R.Rack.faults in
    let x = c.halted.inside in
    let h : HaltedView _ = record { serial = x.serial; devs = x.devs; rack = x.rack; flight = x.flight; faults = x.faults } in
    let some = subst (λ (v : HaltedView _). HaltsSome B M S v) (sym c.halted.view_is) c.requires.some in
    later_le x.faults (F x.rack) (F c.search.new.rack) c.halted.invariant c.search.ensures.faults

pub invariant_of-settle : goal.invariant_of-settle
invariant_of-settle g c =
    let B = g.R.Rack.devs in
    let M = g.R.Rack.moment in
    let S = g.R.Rack.state_at in
    let F = g.R.Rack.faults in
    let x = c.halted.inside in
    let h : HaltedView _ = record { serial = x.serial; devs = x.devs; rack = x.rack; flight = x.flight; faults = x.faults } in
    let some = subst (λ (v : HaltedView _). HaltsSome B M S v) (sym c.halted.view_is) c.requires.some in
    later_le x.faults (F x.rack) (F c.search.new.rack) c.halted.invariant c.search.ensures.faults
