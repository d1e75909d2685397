use Rattle.std.proofs.Common.{◌≡◌, ◌^◌, ◌≤◌, sym, ◌∙◌, ap, arith}
use Rattle.st_deltalog.specs.Log.{checkpoint_in, usable, later}
use Rattle.st_deltalog.proofs.Tails.{begun_fits}
use Rattle.st_deltalog.proofs.find.begun_at.Goals as goal

pub returns-clause-found : goal.returns-clause-found
returns-clause-found g c =
    let M = g.R.Rack.moment in
    let S = g.R.Rack.state_at in
    let flex = c.args.flex.now in
    let p = c.args.serial in
    let G = c.args.generation in
    let dev = c.args.dev.now in
    let r0 = c.args.rack.now in
    let r1 = c.read_at.new.rack in
    let f = (S r0 (M r0) dev).holds in
    let still : (S r1 (M r1) dev).holds ≡ f = (λ i. (c.read_at.ensures.same.states i (c.read_at.ensures.same.clock i) dev).holds) in
    let first : c.if_usable-first.result ≡ usable p G (checkpoint_in flex 0 f) = c.if_usable-first.ensures ∙ ap (usable p G) c.in_ok-read_at.ensures.found in
    let second : c.if_usable-second.result ≡ usable p G (checkpoint_in flex 1 f) = c.if_usable-second.ensures ∙ ap (usable p G) (c.in_ok-read_at-2.ensures.found ∙ ap (checkpoint_in flex 1) still) in
    c.later_of.ensures ∙ (λ i. later (first i) (second i))

pub returns-clause-fits : goal.returns-clause-fits
returns-clause-fits g c =
    let f = (g.R.Rack.state_at c.args.rack.now (g.R.Rack.moment c.args.rack.now) c.args.dev.now).holds in
    begun_fits c.args.flex.now c.args.serial c.args.generation f c.read_at.ensures.eight (omega (arith, c.requires.small)) c.later_of.result (returns-clause-found g c)
