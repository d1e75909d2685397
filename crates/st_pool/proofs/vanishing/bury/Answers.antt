use Rattle.std.proofs.Common.{◌≡◌, ◌≤◌, ℕ, true, Option, Err, refl, sym, ◌∙◌, ap, subst}
use Rattle.st_model.specs.declared.entry.Env.TheVariants.{After, Before}
use Rattle.st_model.specs.declared.state.PoolState.{PoolState}
use Rattle.st_model.specs.Step.{can_start}
use Rattle.st_slots.specs.declared.spot.SlotFault.{SlotFault}
use Rattle.st_starting.specs.declared.finding.Newest.{Newest}
use Rattle.st_starting.specs.declared.outcome.Start.TheVariants as starts
use Rattle.st_onestart.proofs.Starting.{starts_alone}
use Rattle.st_pool.specs.declared.started.Started.TheVariants as did
use Rattle.st_pool.specs.Halts.{Halts, HaltedView}
use Rattle.st_pool.specs.Starts.{DidStart}
use Rattle.st_pool.specs.inner.Wakings.{AreLarge, IsEnded, IsSought, IsUnmade}
use Rattle.st_pool.proofs.Idle.{once, there}
use Rattle.st_pool.proofs.Waked.{counted_le, later_le}
use Rattle.st_pool.proofs.Emptied.{is_buried, not_buried}
use Rattle.st_pool.proofs.vanishing.bury.Goals as goal

pub finish-requires-clause-distinct : goal.finish-requires-clause-distinct
finish-requires-clause-distinct g c =
    let B = g.R.Rack.devs in
    let M = g.R.Rack.moment in
    let S = g.R.Rack.state_at in
    let F = g.R.Rack.faults in
    let x = c.halted.inside in
    let h : HaltedView _ = record { serial = x.serial; devs = x.devs; rack = x.rack; flight = x.flight; faults = x.faults } in
    let sought = subst (λ (v : HaltedView _). IsSought B M S v (record { start = starts.Gone c.args.generation; newest = c.args.newest })) (sym c.halted.view_is) c.requires.sought in
    let some = sought.some in
    let ended = subst (λ (v : HaltedView _). IsEnded v.flight c.args.generation) (sym c.halted.view_is) c.requires.ended in
    once B M S some.0 h some.1 some.2

pub finish-requires-clause-there : goal.finish-requires-clause-there
finish-requires-clause-there g c =
    let B = g.R.Rack.devs in
    let M = g.R.Rack.moment in
    let S = g.R.Rack.state_at in
    let F = g.R.Rack.faults in
    let x = c.halted.inside in
    let h : HaltedView _ = record { serial = x.serial; devs = x.devs; rack = x.rack; flight = x.flight; faults = x.faults } in
    let sought = subst (λ (v : HaltedView _). IsSought B M S v (record { start = starts.Gone c.args.generation; newest = c.args.newest })) (sym c.halted.view_is) c.requires.sought in
    let some = sought.some in
    let ended = subst (λ (v : HaltedView _). IsEnded v.flight c.args.generation) (sym c.halted.view_is) c.requires.ended in
    there B M S some.0 h some.1 some.2

pub finish-requires-clause-settled : goal.finish-requires-clause-settled
finish-requires-clause-settled g c =
    let B = g.R.Rack.devs in
    let M = g.R.Rack.moment in
    let S = g.R.Rack.state_at in
    let F = g.R.Rack.faults in
    let x = c.halted.inside in
    let h : HaltedView _ = record { serial = x.serial; devs = x.devs; rack = x.rack; flight = x.flight; faults = x.faults } in
    let sought = subst (λ (v : HaltedView _). IsSought B M S v (record { start = starts.Gone c.args.generation; newest = c.args.newest })) (sym c.halted.view_is) c.requires.sought in
    let some = sought.some in
    let ended = subst (λ (v : HaltedView _). IsEnded v.flight c.args.generation) (sym c.halted.view_is) c.requires.ended in
    sought.settled

pub finish-requires-clause-found : goal.finish-requires-clause-found
finish-requires-clause-found g c =
    let B = g.R.Rack.devs in
    let M = g.R.Rack.moment in
    let S = g.R.Rack.state_at in
    let F = g.R.Rack.faults in
    let x = c.halted.inside in
    let h : HaltedView _ = record { serial = x.serial; devs = x.devs; rack = x.rack; flight = x.flight; faults = x.faults } in
    let sought = subst (λ (v : HaltedView _). IsSought B M S v (record { start = starts.Gone c.args.generation; newest = c.args.newest })) (sym c.halted.view_is) c.requires.sought in
    let some = sought.some in
    let ended = subst (λ (v : HaltedView _). IsEnded v.flight c.args.generation) (sym c.halted.view_is) c.requires.ended in
    (starts.Gone c.args.generation, sought.found)

pub leave-requires : goal.leave-requires
leave-requires g c =
    let B = g.R.Rack.devs in
    let M = g.R.Rack.moment in
    let S = g.R.Rack.state_at in
    let F = g.R.Rack.faults in
    let x = c.halted.inside in
    let h : HaltedView _ = record { serial = x.serial; devs = x.devs; rack = x.rack; flight = x.flight; faults = x.faults } in
    let sought = subst (λ (v : HaltedView _). IsSought B M S v (record { start = starts.Gone c.args.generation; newest = c.args.newest })) (sym c.halted.view_is) c.requires.sought in
    let some = sought.some in
    let ended = subst (λ (v : HaltedView _). IsEnded v.flight c.args.generation) (sym c.halted.view_is) c.requires.ended in
    let r2 = c.finish.new.rack in
    let same = c.finish.ensures.devs in
    let later = c.finish.ensures.faults in
    let during = c.finish.ensures.during in
    let most = c.halted.invariant in
    λ e. counted_le x.faults (F x.rack) (F r2) most (c.finish.ensures.cause (c.in-Err.is ∙ ap (λ (f : SlotFault). Err f) e))

pub returns-in-Ok : goal.returns-in-Ok
returns-in-Ok g c =
    let B = g.R.Rack.devs in
    let M = g.R.Rack.moment in
    let S = g.R.Rack.state_at in
    let F = g.R.Rack.faults in
    let x = c.halted.inside in
    let h : HaltedView _ = record { serial = x.serial; devs = x.devs; rack = x.rack; flight = x.flight; faults = x.faults } in
    let sought = subst (λ (v : HaltedView _). IsSought B M S v (record { start = starts.Gone c.args.generation; newest = c.args.newest })) (sym c.halted.view_is) c.requires.sought in
    let some = sought.some in
    let ended = subst (λ (v : HaltedView _). IsEnded v.flight c.args.generation) (sym c.halted.view_is) c.requires.ended in
    let r2 = c.finish.new.rack in
    let same = c.finish.ensures.devs in
    let later = c.finish.ensures.faults in
    let during = c.finish.ensures.during in
    let most = c.halted.invariant in
    subst (λ (v : HaltedView _). (pool : PoolState) → Halts B M S pool v → can_start pool.mode ≡ true → DidStart B M S F pool v (did.Vanished r2 After)) c.halted.view_is
    (λ pool halts can.
    is_buried B M S F starts_alone pool h halts can most c.args.generation c.args.newest sought ended r2 same later during c.in-Ok.ensures.settled (c.in-Ok.ensures.gone c.args.generation sought.found))

pub returns-in-Err : goal.returns-in-Err
returns-in-Err g c =
    let B = g.R.Rack.devs in
    let M = g.R.Rack.moment in
    let S = g.R.Rack.state_at in
    let F = g.R.Rack.faults in
    let x = c.halted.inside in
    let h : HaltedView _ = record { serial = x.serial; devs = x.devs; rack = x.rack; flight = x.flight; faults = x.faults } in
    let sought = subst (λ (v : HaltedView _). IsSought B M S v (record { start = starts.Gone c.args.generation; newest = c.args.newest })) (sym c.halted.view_is) c.requires.sought in
    let some = sought.some in
    let ended = subst (λ (v : HaltedView _). IsEnded v.flight c.args.generation) (sym c.halted.view_is) c.requires.ended in
    let r2 = c.finish.new.rack in
    let same = c.finish.ensures.devs in
    let later = c.finish.ensures.faults in
    let during = c.finish.ensures.during in
    let most = c.halted.invariant in
    subst (λ (v : HaltedView _). (pool : PoolState) → Halts B M S pool v → can_start pool.mode ≡ true → DidStart B M S F pool v c.leave.result) c.halted.view_is
    (λ pool halts can.
    subst (λ (r : _). DidStart B M S F pool h r) (sym c.leave.ensures)
    (not_buried B M S F starts_alone pool h halts can most c.args.generation c.args.newest sought ended r2 same later during c.in-Err.fault (λ e. c.finish.ensures.cause (c.in-Err.is ∙ ap (λ (f : SlotFault). Err f) e))))

pub same-devs : goal.same-devs
same-devs g c =
    refl

pub invariant_of-leave : goal.invariant_of-leave
invariant_of-leave g c =
    let B = g.R.Rack.devs in
    let M = g.R.Rack.moment in
    let S = g.R.Rack.state_at in
    let F = g.R.Rack.faults in
    let x = c.halted.inside in
    let h : HaltedView _ = record { serial = x.serial; devs = x.devs; rack = x.rack; flight = x.flight; faults = x.faults } in
    let sought = subst (λ (v : HaltedView _). IsSought B M S v (record { start = starts.Gone c.args.generation; newest = c.args.newest })) (sym c.halted.view_is) c.requires.sought in
    let some = sought.some in
    let ended = subst (λ (v : HaltedView _). IsEnded v.flight c.args.generation) (sym c.halted.view_is) c.requires.ended in
    let r2 = c.finish.new.rack in
    let same = c.finish.ensures.devs in
    let later = c.finish.ensures.faults in
    let during = c.finish.ensures.during in
    let most = c.halted.invariant in
    later_le x.faults (F x.rack) (F r2) most later
