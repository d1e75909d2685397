use Rattle.std.proofs.Common.{Bool, cond, List, subst, sym, ◌∙◌, ap}
use Rattle.st_rack.specs.Calls.{Rises}
use Rattle.st_shelf.specs.Shelf.{look, rows_of}
use Rattle.st_shelf.proofs.Look.{not_in, has_in}
use Rattle.st_shelf.proofs.Change.{joins}
use Rattle.st_shelf.proofs.Come.{look-join_in, rises-join}
use Rattle.st_sparse.specs.Sparse.{sparse_path, sparse_size, sparse_state, sparse_reads}
use Rattle.st_sparse.specs.declared.sparse.Sparse.{Sparse}
use Rattle.st_memrack.proofs.Mem.{past_of, list_of}
use Rattle.st_memrack.proofs.Whole.{apart_in}
use Rattle.st_memrack.proofs.memrack.MemRackRack.absorb.Goals as goal

pub invariant_of-self : goal.invariant_of-self
invariant_of-self c =
    let slabs = c.args.self.now.devices.items in
    let others = c.args.other.devices.items in
    record {
      rises = subst (λ (l : List Sparse). Rises (rows_of sparse_path sparse_size l)) (sym c.take_in.ensures.items)
          (rises-join sparse_path sparse_size slabs others c.args.self.now.rises c.args.other.rises (apart_in sparse_path sparse_size slabs others c.requires.apart));
    }

pub returns-clause-joined : goal.returns-clause-joined
returns-clause-joined c =
    joins past_of list_of sparse_path sparse_size sparse_state c.args.self.now c.args.other _ c.remember_joined.ensures.depth c.remember_joined.ensures.was c.take_in.ensures.items

pub returns-clause-reads : goal.returns-clause-reads
returns-clause-reads c =
    let slabs = c.args.self.now.devices.items in
    let others = c.args.other.devices.items in
    (λ p none. ap (λ (l : List Sparse). look sparse_path sparse_reads 0 l p) c.take_in.ensures.items ∙ look-join_in sparse_path sparse_reads 0 slabs others p
    ∙ ap (λ (b : Bool). cond b (look sparse_path sparse_reads 0 others p) (look sparse_path sparse_reads 0 slabs p)) (not_in sparse_path sparse_size others p none))

pub returns-clause-reads_others : goal.returns-clause-reads_others
returns-clause-reads_others c =
    let slabs = c.args.self.now.devices.items in
    let others = c.args.other.devices.items in
    (λ p n has. ap (λ (l : List Sparse). look sparse_path sparse_reads 0 l p) c.take_in.ensures.items ∙ look-join_in sparse_path sparse_reads 0 slabs others p
    ∙ ap (λ (b : Bool). cond b (look sparse_path sparse_reads 0 others p) (look sparse_path sparse_reads 0 slabs p)) (has_in sparse_path sparse_size others p n has))
