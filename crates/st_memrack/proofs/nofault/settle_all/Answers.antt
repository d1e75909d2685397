use Rattle.std.proofs.Common.{◌≤◌, ◌<◌, length, subst, refl, add-one, arith}
use Rattle.st_memrack.specs.Blank.{IsSettled}
use Rattle.st_memrack.specs.declared.slab.Slab.{Slab}
use Rattle.st_memrack.proofs.Zip.{none_yet, one_more, all_done}
use Rattle.st_memrack.proofs.nofault.settle_all.Goals as goal

pub loop-i-init : goal.loop-i-init
loop-i-init c = (none_yet IsSettled c.args.slabs.now.items, refl, refl)

pub loop-i-preserved : goal.loop-i-preserved
loop-i-preserved c =
    let done : IsSettled c.index_mut.result.now c.settle.new.self = record { synced = c.settle.ensures.synced; path = c.settle.ensures.path; size = c.settle.ensures.size; reads = c.settle.ensures.reads } in
    let at = subst (λ (s : Slab). IsSettled s c.settle.new.self) c.index_mut.ensures.value done in
    let lt : c.loop-i.i < length c.loop-i.slabs.items = omega arith in
    (rw add-one (one_more IsSettled c.loop-i.i c.args.slabs.now.items c.loop-i.slabs.items c.settle.new.self c.index_mut.result.now c.loop-i.invariant.0 lt at), c.loop-i.invariant.1, c.loop-i.invariant.2)

pub returns-clause-settled : goal.returns-clause-settled
returns-clause-settled c = let le : length c.loop-i.slabs.items ≤ c.loop-i.i = omega arith in all_done IsSettled c.loop-i.i c.args.slabs.now.items c.loop-i.slabs.items le c.loop-i.invariant.0
