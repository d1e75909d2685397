use Rattle.std.proofs.Common.{subst}
use Rattle.st_starting.specs.declared.outcome.Start.{Start}
use Rattle.st_pool.specs.inner.Wakings.{IsSought}
use Rattle.st_pool.proofs.starting.settle.Goals as goal

pub wake-requires : goal.wake-requires
wake-requires g c =
    let B = g.R.Rack.devs in
    let M = g.R.Rack.moment in
    let S = g.R.Rack.state_at in
    let F = g.R.Rack.faults in
    subst (λ (s : Start). IsSought B M S c.args.halted (record { start = s; newest = c.args.finding.newest })) c.in-Ready.is c.requires

pub unmade-requires : goal.unmade-requires
unmade-requires g c =
    let B = g.R.Rack.devs in
    let M = g.R.Rack.moment in
    let S = g.R.Rack.state_at in
    let F = g.R.Rack.faults in
    (c.args.finding.newest, subst (λ (s : Start). IsSought B M S c.args.halted (record { start = s; newest = c.args.finding.newest })) c.in-Nothing.is c.requires)

pub ended-requires : goal.ended-requires
ended-requires g c =
    let B = g.R.Rack.devs in
    let M = g.R.Rack.moment in
    let S = g.R.Rack.state_at in
    let F = g.R.Rack.faults in
    subst (λ (s : Start). IsSought B M S c.args.halted (record { start = s; newest = c.args.finding.newest })) c.in-Gone.is c.requires

pub returns-in-Ready : goal.returns-in-Ready
returns-in-Ready g c =
    c.wake.ensures

pub returns-in-Nothing : goal.returns-in-Nothing
returns-in-Nothing g c =
    c.unmade.ensures

pub returns-in-Gone : goal.returns-in-Gone
returns-in-Gone g c =
    c.ended.ensures

pub returns-in-Broken : goal.returns-in-Broken
returns-in-Broken g c =
    c.untouched.ensures
