use Rattle.std.proofs.Common.{◌≡◌, ℕ, true, ◌∷◌, [], Option, Some, sym, ap, subst}
use Rattle.st_model.specs.declared.call.Call.TheVariants.{StopPool}
use Rattle.st_model.specs.declared.entry.Env.TheVariants.{Plain}
use Rattle.st_model.specs.declared.reply.Given.TheVariants.{Changed}
use Rattle.st_model.specs.declared.reply.Identity.TheVariants.{Pool}
use Rattle.st_model.specs.declared.reply.Reply.{Reply}
use Rattle.st_model.specs.declared.state.EngineState.{EngineState}
use Rattle.st_model.specs.Answer.{accepted}
use Rattle.st_model.specs.Checks.{halted}
use Rattle.st_model.specs.Step.{can_start, step}
use Rattle.st_rack.specs.Device.{held}
use Rattle.st_pool.specs.declared.flight.Flight.{Flight}
use Rattle.st_pool.specs.Halts.{Halts}
use Rattle.st_pool.specs.View.{PoolView, engine_of, pool_with}
use Rattle.st_pool.proofs.Halting.{can_again, flight_with, halts, stop_is}
use Rattle.st_pool.proofs.pool.Pool.stop.Goals as goal

pub of-requires-clause-first : goal.of-requires-clause-first
of-requires-clause-first g c = c.self.invariant.serial.from

pub of-requires-clause-last : goal.of-requires-clause-last
of-requires-clause-last g c = c.self.invariant.serial.until

pub invariant_of-result : goal.invariant_of-result
invariant_of-result g c = c.self.invariant.count_is

pub returns-clause-halts : goal.returns-clause-halts
returns-clause-halts g c =
    let x = c.self.inside in
    let B = g.R.Rack.devs in
    let M = g.R.Rack.moment in
    let S = g.R.Rack.state_at in
    let F = g.R.Rack.faults in
    subst (λ (v : PoolView _). Halts B M S (halted v.pool) (record { serial = c.of.result; devs = x.devs; rack = x.rack; flight = c.with_books.result; faults = x.faults })) c.self.view_is
    (subst (λ (f : Option Flight). Halts B M S (halted (pool_with x.books x.flight (held (S x.seen.value (M x.seen.value))))) (record { serial = c.of.result; devs = x.devs; rack = x.rack; flight = f; faults = x.faults })) (sym c.with_books.ensures)
    (subst (λ (n : ℕ). Halts B M S (halted (pool_with x.books x.flight (held (S x.seen.value (M x.seen.value))))) (record { serial = n; devs = x.devs; rack = x.rack; flight = flight_with x.books x.flight; faults = x.faults })) (sym c.of.ensures)
    (halts B M S F x.books x.flight x.devs x.shown x.spare x.rack x.seen.value x.faults c.self.invariant)))

pub returns-clause-replied : goal.returns-clause-replied
returns-clause-replied g c =
    let x = c.self.inside in
    let B = g.R.Rack.devs in
    let M = g.R.Rack.moment in
    let S = g.R.Rack.state_at in
    subst (λ (v : PoolView _). (step (engine_of v.pool (B v.rack)) (StopPool v.pool.name) Plain).0 ≡ accepted (Changed true (Some (Pool v.pool.serial)))) c.self.view_is
    (ap (λ (o : Reply × EngineState). o.0) (stop_is x.books x.flight (held (S x.seen.value (M x.seen.value))) (B x.rack)))

pub returns-clause-becomes : goal.returns-clause-becomes
returns-clause-becomes g c =
    let x = c.self.inside in
    let B = g.R.Rack.devs in
    let M = g.R.Rack.moment in
    let S = g.R.Rack.state_at in
    subst (λ (v : PoolView _). (step (engine_of v.pool (B v.rack)) (StopPool v.pool.name) Plain).1.pools ≡ halted v.pool ∷ []) c.self.view_is
    (ap (λ (o : Reply × EngineState). o.1.pools) (stop_is x.books x.flight (held (S x.seen.value (M x.seen.value))) (B x.rack)))

pub returns-clause-rack : goal.returns-clause-rack
returns-clause-rack g c = ap (λ (v : PoolView _). v.rack) c.self.view_is

pub returns-clause-faults : goal.returns-clause-faults
returns-clause-faults g c = ap (λ (v : PoolView _). v.faults) c.self.view_is

pub returns-clause-starts : goal.returns-clause-starts
returns-clause-starts g c =
    let x = c.self.inside in
    let M = g.R.Rack.moment in
    let S = g.R.Rack.state_at in
    subst (λ (v : PoolView _). can_start (halted v.pool).mode ≡ true) c.self.view_is (can_again x.books x.flight (held (S x.seen.value (M x.seen.value))))
