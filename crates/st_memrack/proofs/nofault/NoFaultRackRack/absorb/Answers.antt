use Rattle.std.proofs.Common.{Bool, cond, List, subst, sym, ◌∙◌, ap}
use Rattle.st_rack.specs.Calls.{Rises}
use Rattle.st_shelf.specs.Shelf.{look, rows_of}
use Rattle.st_shelf.proofs.Look.{not_in, has_in}
use Rattle.st_shelf.proofs.Change.{joins}
use Rattle.st_shelf.proofs.Come.{look-join_in, rises-join}
use Rattle.st_memrack.specs.Slab.{slab_path, slab_size, slab_state, slab_reads}
use Rattle.st_memrack.specs.declared.slab.Slab.{Slab}
use Rattle.st_memrack.proofs.Whole.{past_of, list_of, apart_in}
use Rattle.st_memrack.proofs.nofault.NoFaultRackRack.absorb.Goals as goal

pub invariant_of-self : goal.invariant_of-self
invariant_of-self c =
    let slabs = c.args.self.now.slabs.items in
    let others = c.args.other.slabs.items in
    record {
      rises = subst (λ (l : List Slab). Rises (rows_of slab_path slab_size l)) (sym c.take_in.ensures.items)
          (rises-join slab_path slab_size slabs others c.args.self.now.rises c.args.other.rises (apart_in slab_path slab_size slabs others c.requires.apart));
    }

pub returns-clause-joined : goal.returns-clause-joined
returns-clause-joined c =
    joins past_of list_of slab_path slab_size slab_state c.args.self.now c.args.other _ c.remember_joined.ensures.depth c.remember_joined.ensures.was c.take_in.ensures.items

pub returns-clause-reads : goal.returns-clause-reads
returns-clause-reads c =
    let slabs = c.args.self.now.slabs.items in
    let others = c.args.other.slabs.items in
    (λ p none. ap (λ (l : List Slab). look slab_path slab_reads 0 l p) c.take_in.ensures.items ∙ look-join_in slab_path slab_reads 0 slabs others p
    ∙ ap (λ (b : Bool). cond b (look slab_path slab_reads 0 others p) (look slab_path slab_reads 0 slabs p)) (not_in slab_path slab_size others p none))

pub returns-clause-reads_others : goal.returns-clause-reads_others
returns-clause-reads_others c =
    let slabs = c.args.self.now.slabs.items in
    let others = c.args.other.slabs.items in
    (λ p n has. ap (λ (l : List Slab). look slab_path slab_reads 0 l p) c.take_in.ensures.items ∙ look-join_in slab_path slab_reads 0 slabs others p
    ∙ ap (λ (b : Bool). cond b (look slab_path slab_reads 0 others p) (look slab_path slab_reads 0 slabs p)) (has_in slab_path slab_size others p n has))
