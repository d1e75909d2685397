use Rattle.std.proofs.Common.{◌≡◌, ◌≤◌, length, sym, subst, arith}
use Rattle.std.specs.Prelude.{IfSome}
use Rattle.st_session.proofs.Small.{all_small, none_small, one_more, some_small}
use Rattle.st_session.proofs.fit.is_fit.Goals as goal

pub loop-i-init : goal.loop-i-init
loop-i-init g c = none_small (g.R.Rack.devs c.args.rack.now)

pub loop-i-preserved : goal.loop-i-preserved
loop-i-preserved g c = one_more (g.R.Rack.devs c.args.rack.now) c.loop-i.i c.loop-i.invariant (some_small (g.R.Rack.devs c.args.rack.now) c.loop-i.i (c.is_small.ensures.small c.if-not-is_small.false))

pub returns-clause-fit : goal.returns-clause-fit
returns-clause-fit g c = λ e.
    let devs = g.R.Rack.devs c.args.rack.now in
    let count = c.devices-count.ensures.count in
    let few = c.if-count-gt-MAX_RACK_DEVICES.false in
    let whole = c.loop-i-test.false in
    all_small devs c.loop-i.i (omega (arith, whole, count)) (omega (arith, few, count)) c.loop-i.invariant
