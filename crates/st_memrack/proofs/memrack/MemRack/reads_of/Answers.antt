use Rattle.std.proofs.Common.{IsNone, List, subst, sym, ◌∙◌, ap}
use Rattle.st_rack.specs.Calls.{sectors_of}
use Rattle.st_shelf.specs.Shelf.{IsFirst, rows_of}
use Rattle.st_shelf.proofs.Look.{look_first, look_none, not_in}
use Rattle.st_sparse.specs.Sparse.{sparse_path, sparse_size, sparse_reads}
use Rattle.st_sparse.specs.declared.sparse.Sparse.{Sparse}
use Rattle.st_memrack.proofs.memrack.MemRack.reads_of.Goals as goal

pub returns-in-Some : goal.returns-in-Some
returns-in-Some c =
    let l = c.args.self.now.devices.items in
    let dev = c.args.dev.now in
    let first = subst (λ (x : List Sparse). IsFirst sparse_path x dev c.in-Some.i) c.deref.ensures.value c.in-Some.ensures.1 in
    ap sparse_reads c.index.ensures ∙ sym (look_first sparse_path sparse_reads 0 l dev c.in-Some.i c.index.result.now first)

pub returns-in-None : goal.returns-in-None
returns-in-None c =
    let l = c.args.self.now.devices.items in
    let dev = c.args.dev.now in
    let none = subst (λ (x : List Sparse). IsNone (sectors_of (rows_of sparse_path sparse_size x) dev)) c.deref.ensures.value c.in-None.ensures in
    sym (look_none sparse_path sparse_reads 0 l dev (not_in sparse_path sparse_size l dev none))
