use Rattle.std.proofs.Common.{List, Some, subst, sym, ◌∙◌, ap}
use Rattle.st_shelf.specs.Shelf.{IsFirst}
use Rattle.st_shelf.proofs.Look.{sectors_first}
use Rattle.st_sparse.specs.Sparse.{sparse_path, sparse_size}
use Rattle.st_sparse.specs.declared.sparse.Sparse.{Sparse}
use Rattle.st_memrack.proofs.memrack.MemRackRack.sectors.Goals as goal

pub returns-in-Some : goal.returns-in-Some
returns-in-Some c =
    let l = c.args.self.now.devices.items in
    let first = subst (λ (x : List Sparse). IsFirst sparse_path x c.args.dev.now c.in-Some.i) c.deref.ensures.value c.in-Some.ensures.1 in
    ap (λ (s : Sparse). Some (sparse_size s)) c.index.ensures ∙ sym (sectors_first sparse_path sparse_size l c.args.dev.now c.in-Some.i c.index.result.now first)
