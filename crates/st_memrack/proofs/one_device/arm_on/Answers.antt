use Rattle.std.proofs.Common.{List, subst}
use Rattle.st_shelf.specs.Shelf.{IsFirst}
use Rattle.st_sparse.specs.Sparse.{sparse_path}
use Rattle.st_sparse.specs.declared.sparse.Sparse.{Sparse}
use Rattle.st_memrack.specs.Ends.{ArmEnds}
use Rattle.st_memrack.proofs.One.{one_of}
use Rattle.st_memrack.proofs.one_device.arm_on.Goals as goal

pub returns-clause-one : goal.returns-clause-one
returns-clause-one c =
    let l = c.args.devices.now.items in
    let dev = c.args.dev.now in
    let i = c.first_of-i.result in
    let first = subst (λ (x : List Sparse). IsFirst sparse_path x dev i) c.as_slice.ensures.value c.first_of-i.ensures.first in
    let e = c.arm.ensures in
    one_of sparse_path (ArmEnds c.args.arm c.arm.result) dev l i c.index_mut.result.now c.arm.new.self first c.index_mut.ensures.value e.path
    (record { armed = e.armed; refused = e.refused; works = e.works; state = e.state; writes = λ j. (e.since j).items; base = e.settled; reads = e.reads; path = e.path; size = e.size })
