use Rattle.std.proofs.Common.{ℕ, ◌+◌, ◌-◌, ◌*◌, ◌^◌, ◌≤◌, min, List, length, get_or, slice_set, subst, sym, ◌∙◌, ap}
use Rattle.st_rack.specs.Device.{DevState, State, cells}
use Rattle.st_units.specs.Causes.{Rose}
use Rattle.st_rack.specs.Calls.{Devices, Rises}
use Rattle.st_shelf.specs.Shelf.{look, no_device, IsFirst}
use Rattle.st_shelf.specs.Past.{was}
use Rattle.st_shelf.proofs.Look.{fits, first_path, rows_set, look_set_kept, look_first, look_set_same, look_set_other}
use Rattle.st_memrack.specs.Slab.{slab_path, slab_size, slab_state, slab_reads}
use Rattle.st_memrack.specs.declared.slab.Slab.{Slab}
use Rattle.st_memrack.proofs.Whole.{first_state, rose_by}
use Rattle.st_memrack.proofs.nofault.NoFaultRackRack.read.Goals as goal

pub get-requires : goal.get-requires
get-requires c =
    let slabs = c.args.self.now.slabs.items in
    let dev = c.args.dev.now in
    let i = c.first_of-i.result in
    let d = c.index_mut.result.now in
    let first = subst (λ (l : List Slab). IsFirst slab_path l dev i) c.deref.ensures.value c.first_of-i.ensures.first in
    subst (λ (s : Slab). 512 * c.args.sector + length c.args.buf.now ≤ 512 * slab_size s) (sym c.index_mut.ensures.value)
    (fits slab_path slab_size slabs dev i d c.args.sector (length c.args.buf.now) first c.requires)

pub invariant_of-self : goal.invariant_of-self
invariant_of-self c =
    let slabs = c.args.self.now.slabs.items in
    let dev = c.args.dev.now in
    let i = c.first_of-i.result in
    let d = c.index_mut.result.now in
    let first = subst (λ (l : List Slab). IsFirst slab_path l dev i) c.deref.ensures.value c.first_of-i.ensures.first in
    let v = c.get.new.self in
    let path = c.get.ensures.path ∙ ap slab_path c.index_mut.ensures.value ∙ first_path slab_path slabs dev i d first in
    record { rises = subst (λ (rows : Devices). Rises rows) (sym (rows_set slab_path slab_size slabs dev i v d first path (c.get.ensures.size ∙ ap slab_size c.index_mut.ensures.value))) c.args.self.now.rises }

pub returns-clause-devs : goal.returns-clause-devs
returns-clause-devs c =
    let slabs = c.args.self.now.slabs.items in
    let dev = c.args.dev.now in
    let i = c.first_of-i.result in
    let d = c.index_mut.result.now in
    let first = subst (λ (l : List Slab). IsFirst slab_path l dev i) c.deref.ensures.value c.first_of-i.ensures.first in
    let v = c.get.new.self in
    let path = c.get.ensures.path ∙ ap slab_path c.index_mut.ensures.value ∙ first_path slab_path slabs dev i d first in
    rows_set slab_path slab_size slabs dev i v d first path (c.get.ensures.size ∙ ap slab_size c.index_mut.ensures.value)

pub returns-clause-bytes : goal.returns-clause-bytes
returns-clause-bytes c =
    let slabs = c.args.self.now.slabs.items in
    let dev = c.args.dev.now in
    let i = c.first_of-i.result in
    let d = c.index_mut.result.now in
    let first = subst (λ (l : List Slab). IsFirst slab_path l dev i) c.deref.ensures.value c.first_of-i.ensures.first in
    c.get.ensures.bytes
    ∙ ap (λ (s : DevState). cells s.holds (512 * c.args.sector) (length c.args.buf.now)) (ap slab_state c.index_mut.ensures.value ∙ sym (first_state c.args.self.now.past.value slabs dev i d first))

pub returns-clause-states : goal.returns-clause-states
returns-clause-states c =
    let slabs = c.args.self.now.slabs.items in
    let dev = c.args.dev.now in
    let i = c.first_of-i.result in
    let d = c.index_mut.result.now in
    let first = subst (λ (l : List Slab). IsFirst slab_path l dev i) c.deref.ensures.value c.first_of-i.ensures.first in
    let v = c.get.new.self in
    let path = c.get.ensures.path ∙ ap slab_path c.index_mut.ensures.value ∙ first_path slab_path slabs dev i d first in
    let kept = c.get.ensures.state ∙ ap slab_state c.index_mut.ensures.value in
    ap (λ (s : State). was slab_path slab_state c.args.self.now.past.value s) (λ k p. look_set_kept slab_path slab_state no_device slabs dev i v d p first path kept k)

pub returns-clause-counted : goal.returns-clause-counted
returns-clause-counted c =
    let slabs = c.args.self.now.slabs.items in
    let dev = c.args.dev.now in
    let i = c.first_of-i.result in
    let d = c.index_mut.result.now in
    let first = subst (λ (l : List Slab). IsFirst slab_path l dev i) c.deref.ensures.value c.first_of-i.ensures.first in
    let v = c.get.new.self in
    let path = c.get.ensures.path ∙ ap slab_path c.index_mut.ensures.value ∙ first_path slab_path slabs dev i d first in
    subst (λ (n : ℕ). Rose n (look slab_path slab_reads 0 (slice_set slabs i v) dev)) (sym (look_first slab_path slab_reads 0 slabs dev i d first))
    (subst (λ (n : ℕ). Rose (slab_reads (get_or slabs i d)) n) (sym (look_set_same slab_path slab_reads 0 slabs dev i v first path))
    (rose_by (slab_reads (get_or slabs i d)) (slab_reads v) (c.get.ensures.reads ∙ ap (λ (s : Slab). min (slab_reads s + 1) (2 ^ 64 - 1)) c.index_mut.ensures.value)))

pub returns-clause-others : goal.returns-clause-others
returns-clause-others c =
    let slabs = c.args.self.now.slabs.items in
    let dev = c.args.dev.now in
    let i = c.first_of-i.result in
    let d = c.index_mut.result.now in
    let first = subst (λ (l : List Slab). IsFirst slab_path l dev i) c.deref.ensures.value c.first_of-i.ensures.first in
    let v = c.get.new.self in
    let path = c.get.ensures.path ∙ ap slab_path c.index_mut.ensures.value ∙ first_path slab_path slabs dev i d first in
    (λ p ne. look_set_other slab_path slab_reads 0 slabs dev i v p first path ne)
