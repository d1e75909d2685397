use Rattle.std.proofs.Common.{◌+◌, ◌*◌, ◌≤◌, List, length, subst, sym}
use Rattle.st_shelf.specs.Shelf.{IsFirst}
use Rattle.st_shelf.proofs.Look.{fits}
use Rattle.st_sparse.specs.Sparse.{sparse_path, sparse_size}
use Rattle.st_sparse.specs.declared.sparse.Sparse.{Sparse}
use Rattle.st_memrack.specs.Ends.{WriteEnds}
use Rattle.st_memrack.proofs.One.{one_of}
use Rattle.st_memrack.proofs.one_device.write_on.Goals as goal

pub write-requires-clause-within : goal.write-requires-clause-within
write-requires-clause-within c =
    let l = c.args.devices.now.items in
    let dev = c.args.dev.now in
    let i = c.first_of-i.result in
    let d = c.index_mut.result.now in
    let first = subst (λ (x : List Sparse). IsFirst sparse_path x dev i) c.as_slice.ensures.value c.first_of-i.ensures.first in
    subst (λ (s : Sparse). 512 * c.args.sector + length c.args.bytes.now ≤ 512 * sparse_size s) (sym c.index_mut.ensures.value)
    (fits sparse_path sparse_size l dev i d c.args.sector (length c.args.bytes.now) first c.requires.within)

pub returns-clause-one : goal.returns-clause-one
returns-clause-one c =
    let l = c.args.devices.now.items in
    let dev = c.args.dev.now in
    let i = c.first_of-i.result in
    let first = subst (λ (x : List Sparse). IsFirst sparse_path x dev i) c.as_slice.ensures.value c.first_of-i.ensures.first in
    let e = c.write.ensures in
    one_of sparse_path (WriteEnds c.args.sector c.args.bytes.now c.args.pick c.write.result) dev l i c.index_mut.result.now c.write.new.self first c.index_mut.ensures.value e.path
    (record { done = e.done; failed = e.failed; short = e.short; arms = e.arms; base = e.settled; given = e.written; touched = e.touched; reads = e.reads; path = e.path; size = e.size })
