use Rattle.std.proofs.Common.{◌+◌, ◌*◌, ◌≤◌, List, length, subst, sym}
use Rattle.st_shelf.specs.Shelf.{IsFirst}
use Rattle.st_shelf.proofs.Look.{fits}
use Rattle.st_sparse.specs.Sparse.{sparse_path, sparse_size}
use Rattle.st_sparse.specs.declared.sparse.Sparse.{Sparse}
use Rattle.st_memrack.specs.Ends.{ReadEnds}
use Rattle.st_memrack.proofs.One.{one_of}
use Rattle.st_memrack.proofs.one_device.read_on.Goals as goal

pub read-requires-clause-within : goal.read-requires-clause-within
read-requires-clause-within c =
    let l = c.args.devices.now.items in
    let dev = c.args.dev.now in
    let i = c.first_of-i.result in
    let d = c.index_mut.result.now in
    let first = subst (λ (x : List Sparse). IsFirst sparse_path x dev i) c.as_slice.ensures.value c.first_of-i.ensures.first in
    subst (λ (s : Sparse). 512 * c.args.sector + length c.args.buf.now ≤ 512 * sparse_size s) (sym c.index_mut.ensures.value)
    (fits sparse_path sparse_size l dev i d c.args.sector (length c.args.buf.now) first c.requires.within)

pub returns-clause-one : goal.returns-clause-one
returns-clause-one c =
    let l = c.args.devices.now.items in
    let dev = c.args.dev.now in
    let i = c.first_of-i.result in
    let first = subst (λ (x : List Sparse). IsFirst sparse_path x dev i) c.as_slice.ensures.value c.first_of-i.ensures.first in
    let e = c.read.ensures in
    one_of sparse_path (ReadEnds c.args.sector c.args.buf.now c.read.new.buf c.read.result) dev l i c.index_mut.result.now c.read.new.self first c.index_mut.ensures.value e.path
    (record { fault = e.fails; arms = e.arms; given = e.bytes; counted = e.reads; state = e.state; writes = λ i. (e.since i).items; base = e.settled; path = e.path; size = e.size })
