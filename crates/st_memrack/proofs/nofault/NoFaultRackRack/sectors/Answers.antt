use Rattle.std.proofs.Common.{List, Some, subst, sym, ◌∙◌, ap}
use Rattle.st_shelf.specs.Shelf.{IsFirst}
use Rattle.st_shelf.proofs.Look.{sectors_first}
use Rattle.st_memrack.specs.Slab.{slab_path, slab_size}
use Rattle.st_memrack.specs.declared.slab.Slab.{Slab}
use Rattle.st_memrack.proofs.nofault.NoFaultRackRack.sectors.Goals as goal

pub returns-in-Some : goal.returns-in-Some
returns-in-Some c =
    let l = c.args.self.now.slabs.items in
    let first = subst (λ (x : List Slab). IsFirst slab_path x c.args.dev.now c.in-Some.i) c.deref.ensures.value c.in-Some.ensures.1 in
    ap (λ (s : Slab). Some (slab_size s)) c.index.ensures ∙ sym (sectors_first slab_path slab_size l c.args.dev.now c.in-Some.i c.index.result.now first)
