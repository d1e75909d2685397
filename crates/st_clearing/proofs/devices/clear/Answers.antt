use Rattle.std.proofs.Common.{refl, sym, ◌∙◌, subst, arith}
use Rattle.std.proofs.lemmas.Option.{slice_get_within}
use Rattle.st_rack.specs.Calls.{Devices, Has}
use Rattle.st_clearing.proofs.Clearings.{all_begun, clearing_on, clearing_still, not_begun, step_begun}
use Rattle.st_clearing.proofs.devices.clear.Goals as goal

pub loop-i-init : goal.loop-i-init
loop-i-init g c =
    record {
      devs = refl;
      reads = refl;
      spare = refl;
      faults = omega arith;
      time = clearing_still c.args.devs.now g.R.Rack.moment g.R.Rack.state_at c.args.rack.now;
      begun = not_begun c.args.devs.now (g.R.Rack.state_at c.args.rack.now (g.R.Rack.moment c.args.rack.now));
    }

pub clear_device-requires-clause-large : goal.clear_device-requires-clause-large
clear_device-requires-clause-large g c =
    let d = c.at.result.now in
    let fit = c.requires.large d (record { index = c.loop-i.i; is = c.at.ensures }) in
    (fit.0, subst (λ (ds : Devices). Has ds d fit.0) (sym c.loop-i.invariant.devs) fit.1, fit.2)

pub returns-in_err-clear_device-clause-time : goal.returns-in_err-clear_device-clause-time
returns-in_err-clear_device-clause-time g c =
    clearing_on c.args.devs.now c.requires.distinct c.loop-i.i c.at.result.now c.at.ensures g.R.Rack.moment g.R.Rack.state_at c.args.rack.now c.loop-i.rack c.clear_device.new.rack
    c.loop-i.invariant.begun c.loop-i.invariant.time c.clear_device.ensures.time

pub loop-i-preserved : goal.loop-i-preserved
loop-i-preserved g c =
    let M = g.R.Rack.moment in
    let S = g.R.Rack.state_at in
    let r0 = c.args.rack.now in
    let r1 = c.loop-i.rack in
    let r2 = c.clear_device.new.rack in
    record {
      devs = c.clear_device.ensures.devs ∙ c.loop-i.invariant.devs;
      reads = c.clear_device.ensures.reads ∙ c.loop-i.invariant.reads;
      spare = c.clear_device.ensures.spare ∙ c.loop-i.invariant.spare;
      faults = omega (arith, c.loop-i.invariant.faults, c.clear_device.ensures.cause.later);
      time = clearing_on c.args.devs.now c.requires.distinct c.loop-i.i c.at.result.now c.at.ensures M S r0 r1 r2 c.loop-i.invariant.begun c.loop-i.invariant.time c.clear_device.ensures.time;
      begun = step_begun c.args.devs.now c.requires.distinct c.loop-i.i c.at.result.now c.at.ensures (S r0 (M r0)) (S r1 (M r1)) (S r2 (M r2)) c.loop-i.invariant.begun c.in_ok-clear_device.ensures.done;
    }

pub returns-clause-done : goal.returns-clause-done
returns-clause-done g c =
    let M = g.R.Rack.moment in
    let S = g.R.Rack.state_at in
    all_begun c.args.devs.now c.loop-i.i (S c.args.rack.now (M c.args.rack.now)) (S c.loop-i.rack (M c.loop-i.rack))
    (λ k d at. (let lt = slice_get_within c.args.devs.now k d at in omega (arith, lt))) c.loop-i.invariant.begun
