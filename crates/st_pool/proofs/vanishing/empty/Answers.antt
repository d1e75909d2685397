use Rattle.std.proofs.Common.{◌≡◌, ◌≤◌, ℕ, true, Option, Err, refl, sym, ◌∙◌, ap, subst}
use Rattle.st_model.specs.declared.entry.Env.TheVariants.{After, Before}
use Rattle.st_model.specs.declared.state.PoolState.{PoolState}
use Rattle.st_model.specs.Step.{can_start}
use Rattle.st_slots.specs.declared.spot.SlotFault.{SlotFault}
use Rattle.st_starting.specs.declared.finding.Newest.{Newest}
use Rattle.st_starting.specs.declared.outcome.Start.TheVariants as starts
use Rattle.st_onestart.proofs.Starting.{starts_alone}
use Rattle.st_pool.specs.declared.started.Started.TheVariants as did
use Rattle.st_pool.specs.Halts.{Halts, HaltedView}
use Rattle.st_pool.specs.Starts.{DidStart}
use Rattle.st_pool.specs.inner.Wakings.{AreLarge, IsEnded, IsSought, IsUnmade}
use Rattle.st_pool.proofs.Idle.{once, there}
use Rattle.st_pool.proofs.Waked.{counted_le, later_le}
use Rattle.st_pool.proofs.Emptied.{is_cleared, not_cleared}
use Rattle.st_pool.proofs.vanishing.empty.Goals as goal

pub clear-requires-clause-distinct : goal.clear-requires-clause-distinct
clear-requires-clause-distinct g c =
    let B = g.R.Rack.devs in
    let M = g.R.Rack.moment in
    let S = g.R.Rack.state_at in
    let F = g.R.Rack.faults in
    let x = c.halted.inside in
    let h : HaltedView _ = record { serial = x.serial; devs = x.devs; rack = x.rack; flight = x.flight; faults = x.faults } in
    let found = subst (λ (v : HaltedView _). (newest : Option Newest) × IsSought B M S v (record { start = starts.Nothing; newest = newest })) (sym c.halted.view_is) c.requires.sought in
    let newest = found.0 in
    let sought = found.1 in
    let some = sought.some in
    let unmade = subst (λ (v : HaltedView _). IsUnmade v.flight) (sym c.halted.view_is) c.requires.making in
    once B M S some.0 h some.1 some.2

pub clear-requires-clause-large : goal.clear-requires-clause-large
clear-requires-clause-large g c =
    let B = g.R.Rack.devs in
    let M = g.R.Rack.moment in
    let S = g.R.Rack.state_at in
    let F = g.R.Rack.faults in
    let x = c.halted.inside in
    let h : HaltedView _ = record { serial = x.serial; devs = x.devs; rack = x.rack; flight = x.flight; faults = x.faults } in
    let found = subst (λ (v : HaltedView _). (newest : Option Newest) × IsSought B M S v (record { start = starts.Nothing; newest = newest })) (sym c.halted.view_is) c.requires.sought in
    let newest = found.0 in
    let sought = found.1 in
    let some = sought.some in
    let unmade = subst (λ (v : HaltedView _). IsUnmade v.flight) (sym c.halted.view_is) c.requires.making in
    subst (λ (v : HaltedView _). AreLarge (B v.rack) v.devs) (sym c.halted.view_is) c.requires.large

pub leave-requires : goal.leave-requires
leave-requires g c =
    let B = g.R.Rack.devs in
    let M = g.R.Rack.moment in
    let S = g.R.Rack.state_at in
    let F = g.R.Rack.faults in
    let x = c.halted.inside in
    let h : HaltedView _ = record { serial = x.serial; devs = x.devs; rack = x.rack; flight = x.flight; faults = x.faults } in
    let found = subst (λ (v : HaltedView _). (newest : Option Newest) × IsSought B M S v (record { start = starts.Nothing; newest = newest })) (sym c.halted.view_is) c.requires.sought in
    let newest = found.0 in
    let sought = found.1 in
    let some = sought.some in
    let unmade = subst (λ (v : HaltedView _). IsUnmade v.flight) (sym c.halted.view_is) c.requires.making in
    let r2 = c.clear.new.rack in
    let same = c.clear.ensures.devs in
    let later = c.clear.ensures.cause.later in
    let time = c.clear.ensures.time in
    let most = c.halted.invariant in
    λ e. counted_le x.faults (F x.rack) (F r2) most c.in-Err.ensures.cause.failed

pub returns-in-Ok : goal.returns-in-Ok
returns-in-Ok g c =
    let B = g.R.Rack.devs in
    let M = g.R.Rack.moment in
    let S = g.R.Rack.state_at in
    let F = g.R.Rack.faults in
    let x = c.halted.inside in
    let h : HaltedView _ = record { serial = x.serial; devs = x.devs; rack = x.rack; flight = x.flight; faults = x.faults } in
    let found = subst (λ (v : HaltedView _). (newest : Option Newest) × IsSought B M S v (record { start = starts.Nothing; newest = newest })) (sym c.halted.view_is) c.requires.sought in
    let newest = found.0 in
    let sought = found.1 in
    let some = sought.some in
    let unmade = subst (λ (v : HaltedView _). IsUnmade v.flight) (sym c.halted.view_is) c.requires.making in
    let r2 = c.clear.new.rack in
    let same = c.clear.ensures.devs in
    let later = c.clear.ensures.cause.later in
    let time = c.clear.ensures.time in
    let most = c.halted.invariant in
    subst (λ (v : HaltedView _). (pool : PoolState) → Halts B M S pool v → can_start pool.mode ≡ true → DidStart B M S F pool v (did.Vanished r2 (Before c.make.result))) c.halted.view_is
    (λ pool halts can.
    subst (λ (bytes : _). DidStart B M S F pool h (did.Vanished r2 (Before bytes))) (sym c.make.ensures)
    (is_cleared B M S F starts_alone pool h halts can most newest sought unmade r2 same later time c.in-Ok.ensures.done))

pub returns-in-Err : goal.returns-in-Err
returns-in-Err g c =
    let B = g.R.Rack.devs in
    let M = g.R.Rack.moment in
    let S = g.R.Rack.state_at in
    let F = g.R.Rack.faults in
    let x = c.halted.inside in
    let h : HaltedView _ = record { serial = x.serial; devs = x.devs; rack = x.rack; flight = x.flight; faults = x.faults } in
    let found = subst (λ (v : HaltedView _). (newest : Option Newest) × IsSought B M S v (record { start = starts.Nothing; newest = newest })) (sym c.halted.view_is) c.requires.sought in
    let newest = found.0 in
    let sought = found.1 in
    let some = sought.some in
    let unmade = subst (λ (v : HaltedView _). IsUnmade v.flight) (sym c.halted.view_is) c.requires.making in
    let r2 = c.clear.new.rack in
    let same = c.clear.ensures.devs in
    let later = c.clear.ensures.cause.later in
    let time = c.clear.ensures.time in
    let most = c.halted.invariant in
    subst (λ (v : HaltedView _). (pool : PoolState) → Halts B M S pool v → can_start pool.mode ≡ true → DidStart B M S F pool v c.leave.result) c.halted.view_is
    (λ pool halts can.
    subst (λ (r : _). DidStart B M S F pool h r) (sym c.leave.ensures)
    (not_cleared B M S F starts_alone pool h halts can most newest sought unmade r2 same later time c.in-Err.ensures.cause.failed))

pub same-devs : goal.same-devs
same-devs g c =
    refl

pub invariant_of-leave : goal.invariant_of-leave
invariant_of-leave g c =
    let B = g.R.Rack.devs in
    let M = g.R.Rack.moment in
    let S = g.R.Rack.state_at in
    let F = g.R.Rack.faults in
    let x = c.halted.inside in
    let h : HaltedView _ = record { serial = x.serial; devs = x.devs; rack = x.rack; flight = x.flight; faults = x.faults } in
    let found = subst (λ (v : HaltedView _). (newest : Option Newest) × IsSought B M S v (record { start = starts.Nothing; newest = newest })) (sym c.halted.view_is) c.requires.sought in
    let newest = found.0 in
    let sought = found.1 in
    let some = sought.some in
    let unmade = subst (λ (v : HaltedView _). IsUnmade v.flight) (sym c.halted.view_is) c.requires.making in
    let r2 = c.clear.new.rack in
    let same = c.clear.ensures.devs in
    let later = c.clear.ensures.cause.later in
    let time = c.clear.ensures.time in
    let most = c.halted.invariant in
    later_le x.faults (F x.rack) (F r2) most later
