use Rattle.std.proofs.Common.{ℕ, ◌≤◌, sym, ◌∙◌, ap, subst}
use Rattle.st_rack.specs.Moments.{AllCut, Goes}
use Rattle.st_pool.specs.Halts.{Halts, HaltedView}
use Rattle.st_pool.proofs.Halting.{halts_cycled}
use Rattle.st_pool.proofs.halted.Halted.cycle.Goals as goal

pub invariant_of-self : goal.invariant_of-self
invariant_of-self g c = subst (λ (n : ℕ). c.self.inside.faults ≤ n) (sym c.cycle.ensures.faults) c.self.invariant

pub returns-clause-cut : goal.returns-clause-cut
returns-clause-cut g c =
    let M = g.R.Rack.moment in
    let S = g.R.Rack.state_at in
    let r1 = c.cycle.new.self in
    subst (λ (v : HaltedView _). AllCut (g.R.Rack.devs v.rack) (S v.rack (M v.rack)) (S r1 (M r1))) c.self.view_is c.cycle.ensures.cut

pub returns-clause-time : goal.returns-clause-time
returns-clause-time g c = subst (λ (v : HaltedView _). Goes g.R.Rack.moment g.R.Rack.state_at (AllCut (g.R.Rack.devs v.rack)) v.rack c.cycle.new.self) c.self.view_is c.cycle.ensures.time

pub returns-clause-halts : goal.returns-clause-halts
returns-clause-halts g c =
    let x = c.self.inside in
    let B = g.R.Rack.devs in
    let M = g.R.Rack.moment in
    let S = g.R.Rack.state_at in
    λ pool halts. halts_cycled B M S pool (record { serial = x.serial; devs = x.devs; rack = x.rack; flight = x.flight; faults = x.faults }) c.cycle.new.self c.cycle.ensures.devs c.cycle.ensures.cut
    (subst (λ (v : HaltedView _). Halts B M S pool v) (sym c.self.view_is) halts)

pub returns-clause-devs : goal.returns-clause-devs
returns-clause-devs g c = c.cycle.ensures.devs ∙ ap (λ (v : HaltedView _). g.R.Rack.devs v.rack) c.self.view_is

pub returns-clause-same : goal.returns-clause-same
returns-clause-same g c = ap (λ (v : HaltedView _). record v { rack = c.cycle.new.self }) c.self.view_is

pub returns-clause-reads : goal.returns-clause-reads
returns-clause-reads g c = c.cycle.ensures.reads ∙ ap (λ (v : HaltedView _). g.R.Rack.reads v.rack) c.self.view_is

pub returns-clause-spare : goal.returns-clause-spare
returns-clause-spare g c = c.cycle.ensures.spare ∙ ap (λ (v : HaltedView _). g.R.Rack.spare v.rack) c.self.view_is

pub returns-clause-counted : goal.returns-clause-counted
returns-clause-counted g c = c.cycle.ensures.faults ∙ ap (λ (v : HaltedView _). g.R.Rack.faults v.rack) c.self.view_is
