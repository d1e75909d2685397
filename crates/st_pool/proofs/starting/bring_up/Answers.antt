use Rattle.std.proofs.Common.{◌≡◌, ◌≤◌, ℕ, true, Some, Err, sym, ◌∙◌, ap, subst}
use Rattle.st_model.specs.declared.state.PoolState.{PoolState}
use Rattle.st_model.specs.Step.{can_start}
use Rattle.st_rack.specs.Device.{held}
use Rattle.st_slots.specs.declared.spot.SlotFault.{SlotFault}
use Rattle.st_starting.specs.declared.outcome.Start.TheVariants as starts
use Rattle.st_onestart.proofs.Starting.{starts_alone}
use Rattle.st_pool.specs.declared.flight.Flight.{Flight}
use Rattle.st_pool.specs.declared.started.Started.TheVariants as did
use Rattle.st_pool.specs.Halts.{Halts, HaltedView}
use Rattle.st_pool.specs.Starts.{DidStart}
use Rattle.st_pool.specs.View.{PoolView, view_of}
use Rattle.st_pool.specs.inner.Wakings.{IsSought, IsTold, known, left}
use Rattle.st_pool.proofs.Idle.{once, there}
use Rattle.st_pool.proofs.Waked.{counted_le, later_le, is_woken, not_woken, pool_woken}
use Rattle.st_pool.proofs.starting.bring_up.Goals as goal

pub finish-requires-clause-distinct : goal.finish-requires-clause-distinct
finish-requires-clause-distinct g c =
    let B = g.R.Rack.devs in
    let M = g.R.Rack.moment in
    let S = g.R.Rack.state_at in
    let F = g.R.Rack.faults in
    let x = c.halted.inside in
    let h : HaltedView _ = record { serial = x.serial; devs = x.devs; rack = x.rack; flight = x.flight; faults = x.faults } in
    let sought = subst (λ (v : HaltedView _). IsSought B M S v (record { start = starts.Ready c.args.books; newest = c.args.newest })) (sym c.halted.view_is) c.requires.sought in
    let some = sought.some in
    let told = subst (λ (v : HaltedView _). IsTold v.flight c.args.books c.args.env) (sym c.halted.view_is) c.requires.told in
    once B M S some.0 h some.1 some.2

pub finish-requires-clause-there : goal.finish-requires-clause-there
finish-requires-clause-there g c =
    let B = g.R.Rack.devs in
    let M = g.R.Rack.moment in
    let S = g.R.Rack.state_at in
    let F = g.R.Rack.faults in
    let x = c.halted.inside in
    let h : HaltedView _ = record { serial = x.serial; devs = x.devs; rack = x.rack; flight = x.flight; faults = x.faults } in
    let sought = subst (λ (v : HaltedView _). IsSought B M S v (record { start = starts.Ready c.args.books; newest = c.args.newest })) (sym c.halted.view_is) c.requires.sought in
    let some = sought.some in
    let told = subst (λ (v : HaltedView _). IsTold v.flight c.args.books c.args.env) (sym c.halted.view_is) c.requires.told in
    there B M S some.0 h some.1 some.2

pub finish-requires-clause-settled : goal.finish-requires-clause-settled
finish-requires-clause-settled g c =
    let B = g.R.Rack.devs in
    let M = g.R.Rack.moment in
    let S = g.R.Rack.state_at in
    let F = g.R.Rack.faults in
    let x = c.halted.inside in
    let h : HaltedView _ = record { serial = x.serial; devs = x.devs; rack = x.rack; flight = x.flight; faults = x.faults } in
    let sought = subst (λ (v : HaltedView _). IsSought B M S v (record { start = starts.Ready c.args.books; newest = c.args.newest })) (sym c.halted.view_is) c.requires.sought in
    let some = sought.some in
    let told = subst (λ (v : HaltedView _). IsTold v.flight c.args.books c.args.env) (sym c.halted.view_is) c.requires.told in
    sought.settled

pub finish-requires-clause-found : goal.finish-requires-clause-found
finish-requires-clause-found g c =
    let B = g.R.Rack.devs in
    let M = g.R.Rack.moment in
    let S = g.R.Rack.state_at in
    let F = g.R.Rack.faults in
    let x = c.halted.inside in
    let h : HaltedView _ = record { serial = x.serial; devs = x.devs; rack = x.rack; flight = x.flight; faults = x.faults } in
    let sought = subst (λ (v : HaltedView _). IsSought B M S v (record { start = starts.Ready c.args.books; newest = c.args.newest })) (sym c.halted.view_is) c.requires.sought in
    let some = sought.some in
    let told = subst (λ (v : HaltedView _). IsTold v.flight c.args.books c.args.env) (sym c.halted.view_is) c.requires.told in
    (starts.Ready c.args.books, sought.found)

pub standing-requires : goal.standing-requires
standing-requires g c =
    let B = g.R.Rack.devs in
    let M = g.R.Rack.moment in
    let S = g.R.Rack.state_at in
    let F = g.R.Rack.faults in
    let x = c.halted.inside in
    let h : HaltedView _ = record { serial = x.serial; devs = x.devs; rack = x.rack; flight = x.flight; faults = x.faults } in
    let sought = subst (λ (v : HaltedView _). IsSought B M S v (record { start = starts.Ready c.args.books; newest = c.args.newest })) (sym c.halted.view_is) c.requires.sought in
    let some = sought.some in
    let told = subst (λ (v : HaltedView _). IsTold v.flight c.args.books c.args.env) (sym c.halted.view_is) c.requires.told in
    let r2 = c.finish.new.rack in
    let same = c.finish.ensures.devs in
    let later = c.finish.ensures.faults in
    let during = c.finish.ensures.during in
    let most = c.halted.invariant in
    pool_woken B M S F starts_alone some.0 h some.1 some.2 c.args.books c.args.newest sought sought.serial most r2 same later during (c.in-Ok.ensures.ready c.args.books sought.found) c.in-Ok.ensures.settled c.args.infos.own c.args.infos.spare (c.requires.infos (held (S r2 (M r2)))).own (c.requires.infos (held (S r2 (M r2)))).spare

pub leave-requires : goal.leave-requires
leave-requires g c =
    let B = g.R.Rack.devs in
    let M = g.R.Rack.moment in
    let S = g.R.Rack.state_at in
    let F = g.R.Rack.faults in
    let x = c.halted.inside in
    let h : HaltedView _ = record { serial = x.serial; devs = x.devs; rack = x.rack; flight = x.flight; faults = x.faults } in
    let sought = subst (λ (v : HaltedView _). IsSought B M S v (record { start = starts.Ready c.args.books; newest = c.args.newest })) (sym c.halted.view_is) c.requires.sought in
    let some = sought.some in
    let told = subst (λ (v : HaltedView _). IsTold v.flight c.args.books c.args.env) (sym c.halted.view_is) c.requires.told in
    let r2 = c.finish.new.rack in
    let same = c.finish.ensures.devs in
    let later = c.finish.ensures.faults in
    let during = c.finish.ensures.during in
    let most = c.halted.invariant in
    λ e. counted_le x.faults (F x.rack) (F r2) most (c.finish.ensures.cause (c.in-Err.is ∙ ap (λ (f : SlotFault). Err f) e))

pub returns-in-Ok : goal.returns-in-Ok
returns-in-Ok g c =
    let B = g.R.Rack.devs in
    let M = g.R.Rack.moment in
    let S = g.R.Rack.state_at in
    let F = g.R.Rack.faults in
    let x = c.halted.inside in
    let h : HaltedView _ = record { serial = x.serial; devs = x.devs; rack = x.rack; flight = x.flight; faults = x.faults } in
    let sought = subst (λ (v : HaltedView _). IsSought B M S v (record { start = starts.Ready c.args.books; newest = c.args.newest })) (sym c.halted.view_is) c.requires.sought in
    let some = sought.some in
    let told = subst (λ (v : HaltedView _). IsTold v.flight c.args.books c.args.env) (sym c.halted.view_is) c.requires.told in
    let r2 = c.finish.new.rack in
    let same = c.finish.ensures.devs in
    let later = c.finish.ensures.faults in
    let during = c.finish.ensures.during in
    let most = c.halted.invariant in
    subst (λ (v : HaltedView _). (pool : PoolState) → Halts B M S pool v → can_start pool.mode ≡ true → DidStart B M S F pool v (did.Up c.standing.result c.args.env)) c.halted.view_is
    (λ pool halts can.
    subst (λ (v : PoolView _). DidStart B M S F pool h (did.Up v c.args.env)) (sym c.standing.ensures)
    (is_woken B M S F starts_alone pool h halts can c.args.books c.args.newest sought sought.serial most r2 same later during (c.in-Ok.ensures.ready c.args.books sought.found) c.in-Ok.ensures.settled c.args.env told))

pub returns-in-Err : goal.returns-in-Err
returns-in-Err g c =
    let B = g.R.Rack.devs in
    let M = g.R.Rack.moment in
    let S = g.R.Rack.state_at in
    let F = g.R.Rack.faults in
    let x = c.halted.inside in
    let h : HaltedView _ = record { serial = x.serial; devs = x.devs; rack = x.rack; flight = x.flight; faults = x.faults } in
    let sought = subst (λ (v : HaltedView _). IsSought B M S v (record { start = starts.Ready c.args.books; newest = c.args.newest })) (sym c.halted.view_is) c.requires.sought in
    let some = sought.some in
    let told = subst (λ (v : HaltedView _). IsTold v.flight c.args.books c.args.env) (sym c.halted.view_is) c.requires.told in
    let r2 = c.finish.new.rack in
    let same = c.finish.ensures.devs in
    let later = c.finish.ensures.faults in
    let during = c.finish.ensures.during in
    let most = c.halted.invariant in
    subst (λ (v : HaltedView _). (pool : PoolState) → Halts B M S pool v → can_start pool.mode ≡ true → DidStart B M S F pool v c.leave.result) c.halted.view_is
    (λ pool halts can.
    subst (λ (r : _). DidStart B M S F pool h r) (sym c.leave.ensures)
    (subst (λ (f : Flight). DidStart B M S F pool h (left c.in-Err.fault (record { serial = x.serial; devs = x.devs; rack = r2; flight = Some f; faults = x.faults }))) (sym c.known.ensures)
    (not_woken B M S F starts_alone pool h halts can c.args.books c.args.newest sought sought.serial most r2 same later during c.in-Err.fault (λ e. c.finish.ensures.cause (c.in-Err.is ∙ ap (λ (f : SlotFault). Err f) e)))))

pub invariant_of-leave : goal.invariant_of-leave
invariant_of-leave g c =
    let B = g.R.Rack.devs in
    let M = g.R.Rack.moment in
    let S = g.R.Rack.state_at in
    let F = g.R.Rack.faults in
    let x = c.halted.inside in
    let h : HaltedView _ = record { serial = x.serial; devs = x.devs; rack = x.rack; flight = x.flight; faults = x.faults } in
    let sought = subst (λ (v : HaltedView _). IsSought B M S v (record { start = starts.Ready c.args.books; newest = c.args.newest })) (sym c.halted.view_is) c.requires.sought in
    let some = sought.some in
    let told = subst (λ (v : HaltedView _). IsTold v.flight c.args.books c.args.env) (sym c.halted.view_is) c.requires.told in
    let r2 = c.finish.new.rack in
    let same = c.finish.ensures.devs in
    let later = c.finish.ensures.faults in
    let during = c.finish.ensures.during in
    let most = c.halted.invariant in
    later_le x.faults (F x.rack) (F r2) most later
