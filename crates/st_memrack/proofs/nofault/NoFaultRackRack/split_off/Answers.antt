use Rattle.std.proofs.Common.{◌≡◌, ◌+◌, not, Bool, cond, List, length, subst, sym, ◌∙◌, refl, ap, arith}
use Rattle.st_rack.specs.Device.{Path}
use Rattle.st_rack.specs.Calls.{Rises, names}
use Rattle.st_shelf.specs.Shelf.{look, rows_of}
use Rattle.st_shelf.proofs.Change.{splits}
use Rattle.st_shelf.proofs.Leave.{look-filter, rises-filter}
use Rattle.st_memrack.specs.Slab.{slab_path, slab_size, slab_state, slab_reads}
use Rattle.st_memrack.specs.declared.slab.Slab.{Slab}
use Rattle.st_memrack.proofs.Whole.{past_of, list_of}
use Rattle.st_memrack.proofs.nofault.NoFaultRackRack.split_off.Goals as goal

pub invariant_of-self : goal.invariant_of-self
invariant_of-self c =
    let slabs = c.args.self.now.slabs.items in
    let list = c.args.list.now in
    record { rises = subst (λ (l : List Slab). Rises (rows_of slab_path slab_size l)) (sym c.take_out.ensures.stay) (rises-filter slab_path slab_size (λ (q : Path). not (names list q)) slabs c.args.self.now.rises) }

pub invariant_of-result : goal.invariant_of-result
invariant_of-result c =
    let slabs = c.args.self.now.slabs.items in
    let list = c.args.list.now in
    record { rises = subst (λ (l : List Slab). Rises (rows_of slab_path slab_size l)) (sym c.take_out.ensures.go) (rises-filter slab_path slab_size (names list) slabs c.args.self.now.rises) }

pub returns-clause-parts : goal.returns-clause-parts
returns-clause-parts c =
    let slabs = c.args.self.now.slabs.items in
    let list = c.args.list.now in
    let total : length c.take_out.new.devices.items + length c.take_out.new.part.items ≡ length slabs = omega (arith, c.take_out.ensures.count, c.take_out.new.devices.ok.0, c.take_out.new.part.ok.0, c.args.self.now.slabs.ok.0) in
    splits past_of list_of slab_path slab_size slab_state list c.args.self.now _ _ c.take_out.ensures.stay c.take_out.ensures.go refl c.copied.ensures.depth c.copied.ensures.was total c.args.self.now.rises c.requires.distinct c.requires.there

pub returns-clause-reads : goal.returns-clause-reads
returns-clause-reads c =
    let slabs = c.args.self.now.slabs.items in
    let list = c.args.list.now in
    (λ p here. ap (λ (l : List Slab). look slab_path slab_reads 0 l p) c.take_out.ensures.stay ∙ look-filter slab_path slab_reads 0 (λ (q : Path). not (names list q)) slabs p
    ∙ ap (λ (b : Bool). cond (not b) (look slab_path slab_reads 0 slabs p) 0) here)

pub returns-clause-reads_gone : goal.returns-clause-reads_gone
returns-clause-reads_gone c =
    let slabs = c.args.self.now.slabs.items in
    let list = c.args.list.now in
    (λ p there. ap (λ (l : List Slab). look slab_path slab_reads 0 l p) c.take_out.ensures.go ∙ look-filter slab_path slab_reads 0 (names list) slabs p
    ∙ ap (λ (b : Bool). cond b (look slab_path slab_reads 0 slabs p) 0) there)
