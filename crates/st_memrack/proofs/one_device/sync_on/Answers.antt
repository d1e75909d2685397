use Rattle.std.proofs.Common.{List, subst}
use Rattle.st_shelf.specs.Shelf.{IsFirst}
use Rattle.st_sparse.specs.Sparse.{sparse_path}
use Rattle.st_sparse.specs.declared.sparse.Sparse.{Sparse}
use Rattle.st_memrack.specs.Ends.{SyncEnds}
use Rattle.st_memrack.proofs.One.{one_of}
use Rattle.st_memrack.proofs.one_device.sync_on.Goals as goal

pub returns-clause-one : goal.returns-clause-one
returns-clause-one c =
    let l = c.args.devices.now.items in
    let dev = c.args.dev.now in
    let i = c.first_of-i.result in
    let first = subst (λ (x : List Sparse). IsFirst sparse_path x dev i) c.as_slice.ensures.value c.first_of-i.ensures.first in
    let e = c.sync.ensures in
    one_of sparse_path (SyncEnds c.sync.result) dev l i c.index_mut.result.now c.sync.new.self first c.index_mut.ensures.value e.path
    (record { fault = e.fails; arms = e.arms; synced = e.synced; unsynced = e.unsynced; none_left = e.since; base = e.settled; same_writes = e.since_stays; same_base = e.settled_stays; reads = e.reads; path = e.path; size = e.size })
