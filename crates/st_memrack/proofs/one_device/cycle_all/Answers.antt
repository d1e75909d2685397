use Rattle.std.proofs.Common.{◌≤◌, ◌<◌, length, subst, refl, add-one, arith}
use Rattle.st_memrack.specs.Ends.{CycleEnds}
use Rattle.st_sparse.specs.declared.sparse.Sparse.{Sparse}
use Rattle.st_memrack.proofs.Zip.{none_yet, one_more, all_done}
use Rattle.st_memrack.proofs.one_device.cycle_all.Goals as goal

pub loop-i-init : goal.loop-i-init
loop-i-init c = (none_yet (CycleEnds c.args.pick) c.args.devices.now.items, refl, refl)

pub loop-i-preserved : goal.loop-i-preserved
loop-i-preserved c =
    let e = c.cycle.ensures in
    let done : CycleEnds c.args.pick c.index_mut.result.now c.cycle.new.self = record {
      picked = e.picked;
      cut = e.cut;
      none_left = e.since;
      base = e.settled;
      works = e.works;
      arms = e.arms;
      reads = e.reads;
      path = e.path;
      size = e.size;
    } in
    let at = subst (λ (s : Sparse). CycleEnds c.args.pick s c.cycle.new.self) c.index_mut.ensures.value done in
    let lt : c.loop-i.i < length c.loop-i.devices.items = omega arith in
    (rw add-one (one_more (CycleEnds c.args.pick) c.loop-i.i c.args.devices.now.items c.loop-i.devices.items c.cycle.new.self c.index_mut.result.now c.loop-i.invariant.0 lt at), c.loop-i.invariant.1, c.loop-i.invariant.2)

pub returns-clause-each : goal.returns-clause-each
returns-clause-each c = let le : length c.loop-i.devices.items ≤ c.loop-i.i = omega arith in all_done (CycleEnds c.args.pick) c.loop-i.i c.args.devices.now.items c.loop-i.devices.items le c.loop-i.invariant.0
