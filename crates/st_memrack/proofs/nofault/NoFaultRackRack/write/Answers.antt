use Rattle.std.proofs.Common.{◌+◌, ◌*◌, ◌≤◌, List, length, slice_set, subst, sym, ◌∙◌, ap}
use Rattle.st_rack.specs.Device.{DevState, Written, Touched}
use Rattle.st_rack.specs.Calls.{Devices, Rises}
use Rattle.st_rack.specs.Moments.{OnDevice}
use Rattle.st_shelf.specs.Shelf.{IsFirst}
use Rattle.st_shelf.proofs.Look.{fits, first_path, rows_set, look_set_kept}
use Rattle.st_shelf.proofs.Change.{one_device, goes}
use Rattle.st_memrack.specs.Slab.{slab_path, slab_size, slab_state, slab_reads}
use Rattle.st_memrack.specs.declared.slab.Slab.{Slab}
use Rattle.st_memrack.proofs.Whole.{past_of, list_of, both_now, set_state}
use Rattle.st_memrack.proofs.nofault.NoFaultRackRack.write.Goals as goal

pub put-requires : goal.put-requires
put-requires c =
    let slabs = c.args.self.now.slabs.items in
    let dev = c.args.dev.now in
    let i = c.first_of-i.result in
    let d = c.index_mut.result.now in
    let first = subst (λ (l : List Slab). IsFirst slab_path l dev i) c.deref.ensures.value c.first_of-i.ensures.first in
    subst (λ (s : Slab). 512 * c.args.sector + length c.args.bytes.now ≤ 512 * slab_size s) (sym c.index_mut.ensures.value)
    (fits slab_path slab_size slabs dev i d c.args.sector (length c.args.bytes.now) first c.requires)

pub invariant_of-self : goal.invariant_of-self
invariant_of-self c =
    let slabs = c.args.self.now.slabs.items in
    let dev = c.args.dev.now in
    let i = c.first_of-i.result in
    let d = c.index_mut.result.now in
    let first = subst (λ (l : List Slab). IsFirst slab_path l dev i) c.deref.ensures.value c.first_of-i.ensures.first in
    let v = c.put.new.self in
    let path = c.put.ensures.path ∙ ap slab_path c.index_mut.ensures.value ∙ first_path slab_path slabs dev i d first in
    record { rises = subst (λ (rows : Devices). Rises rows) (sym (rows_set slab_path slab_size slabs dev i v d first path (c.put.ensures.size ∙ ap slab_size c.index_mut.ensures.value))) c.args.self.now.rises }

pub returns-clause-devs : goal.returns-clause-devs
returns-clause-devs c =
    let slabs = c.args.self.now.slabs.items in
    let dev = c.args.dev.now in
    let i = c.first_of-i.result in
    let d = c.index_mut.result.now in
    let first = subst (λ (l : List Slab). IsFirst slab_path l dev i) c.deref.ensures.value c.first_of-i.ensures.first in
    let v = c.put.new.self in
    let path = c.put.ensures.path ∙ ap slab_path c.index_mut.ensures.value ∙ first_path slab_path slabs dev i d first in
    rows_set slab_path slab_size slabs dev i v d first path (c.put.ensures.size ∙ ap slab_size c.index_mut.ensures.value)

pub returns-clause-written : goal.returns-clause-written
returns-clause-written c =
    let slabs = c.args.self.now.slabs.items in
    let dev = c.args.dev.now in
    let i = c.first_of-i.result in
    let d = c.index_mut.result.now in
    let first = subst (λ (l : List Slab). IsFirst slab_path l dev i) c.deref.ensures.value c.first_of-i.ensures.first in
    let v = c.put.new.self in
    let path = c.put.ensures.path ∙ ap slab_path c.index_mut.ensures.value ∙ first_path slab_path slabs dev i d first in
    subst (λ (s : DevState). Written (512 * c.args.sector) c.args.bytes.now s) (sym (set_state c.remember.new.past.value slabs dev i v first path)) c.put.ensures.written

pub returns-clause-touched : goal.returns-clause-touched
returns-clause-touched c =
    let slabs = c.args.self.now.slabs.items in
    let dev = c.args.dev.now in
    let i = c.first_of-i.result in
    let d = c.index_mut.result.now in
    let first = subst (λ (l : List Slab). IsFirst slab_path l dev i) c.deref.ensures.value c.first_of-i.ensures.first in
    let v = c.put.new.self in
    let path = c.put.ensures.path ∙ ap slab_path c.index_mut.ensures.value ∙ first_path slab_path slabs dev i d first in
    let change = one_device slab_path slab_state slabs dev i v d (Touched (512 * c.args.sector) c.args.bytes.now) first path
    (subst (λ (s : Slab). Touched (512 * c.args.sector) c.args.bytes.now (slab_state s) (slab_state v)) c.index_mut.ensures.value c.put.ensures.touched) in
    both_now slab_path slab_state c.args.self.now.past.value c.remember.new.past.value slabs (slice_set slabs i v) (OnDevice dev (Touched (512 * c.args.sector) c.args.bytes.now)) change

pub returns-clause-time : goal.returns-clause-time
returns-clause-time c =
    let slabs = c.args.self.now.slabs.items in
    let dev = c.args.dev.now in
    let i = c.first_of-i.result in
    let d = c.index_mut.result.now in
    let first = subst (λ (l : List Slab). IsFirst slab_path l dev i) c.deref.ensures.value c.first_of-i.ensures.first in
    let v = c.put.new.self in
    let path = c.put.ensures.path ∙ ap slab_path c.index_mut.ensures.value ∙ first_path slab_path slabs dev i d first in
    let change = one_device slab_path slab_state slabs dev i v d (Touched (512 * c.args.sector) c.args.bytes.now) first path
    (subst (λ (s : Slab). Touched (512 * c.args.sector) c.args.bytes.now (slab_state s) (slab_state v)) c.index_mut.ensures.value c.put.ensures.touched) in
    goes past_of list_of slab_path slab_size slab_state c.args.self.now _ c.remember.ensures.depth c.remember.ensures.was (OnDevice dev (Touched (512 * c.args.sector) c.args.bytes.now)) change

pub returns-clause-reads : goal.returns-clause-reads
returns-clause-reads c =
    let slabs = c.args.self.now.slabs.items in
    let dev = c.args.dev.now in
    let i = c.first_of-i.result in
    let d = c.index_mut.result.now in
    let first = subst (λ (l : List Slab). IsFirst slab_path l dev i) c.deref.ensures.value c.first_of-i.ensures.first in
    let v = c.put.new.self in
    let path = c.put.ensures.path ∙ ap slab_path c.index_mut.ensures.value ∙ first_path slab_path slabs dev i d first in
    let kept = c.put.ensures.reads ∙ ap slab_reads c.index_mut.ensures.value in
    (λ k p. look_set_kept slab_path slab_reads 0 slabs dev i v d p first path kept k)
