use Rattle.std.proofs.Common.{List, get_or, slice_set, subst, sym, ◌∙◌, ap}
use Rattle.st_rack.specs.Device.{Settling, Synced}
use Rattle.st_rack.specs.Calls.{Devices, Rises}
use Rattle.st_rack.specs.Moments.{OnDevice}
use Rattle.st_shelf.specs.Shelf.{IsFirst}
use Rattle.st_shelf.proofs.Look.{first_path, rows_set, look_set_kept}
use Rattle.st_shelf.proofs.Change.{one_device, goes}
use Rattle.st_memrack.specs.Slab.{slab_path, slab_size, slab_state, slab_reads}
use Rattle.st_memrack.specs.declared.slab.Slab.{Slab}
use Rattle.st_memrack.proofs.Whole.{past_of, list_of, both_now, synced_settles}
use Rattle.st_memrack.proofs.nofault.NoFaultRackRack.sync.Goals as goal

pub invariant_of-self : goal.invariant_of-self
invariant_of-self c =
    let slabs = c.args.self.now.slabs.items in
    let dev = c.args.dev.now in
    let i = c.first_of-i.result in
    let d = c.index_mut.result.now in
    let first = subst (λ (l : List Slab). IsFirst slab_path l dev i) c.deref.ensures.value c.first_of-i.ensures.first in
    let v = c.settle.new.self in
    let path = c.settle.ensures.path ∙ ap slab_path c.index_mut.ensures.value ∙ first_path slab_path slabs dev i d first in
    record { rises = subst (λ (rows : Devices). Rises rows) (sym (rows_set slab_path slab_size slabs dev i v d first path (c.settle.ensures.size ∙ ap slab_size c.index_mut.ensures.value))) c.args.self.now.rises }

pub returns-clause-devs : goal.returns-clause-devs
returns-clause-devs c =
    let slabs = c.args.self.now.slabs.items in
    let dev = c.args.dev.now in
    let i = c.first_of-i.result in
    let d = c.index_mut.result.now in
    let first = subst (λ (l : List Slab). IsFirst slab_path l dev i) c.deref.ensures.value c.first_of-i.ensures.first in
    let v = c.settle.new.self in
    let path = c.settle.ensures.path ∙ ap slab_path c.index_mut.ensures.value ∙ first_path slab_path slabs dev i d first in
    rows_set slab_path slab_size slabs dev i v d first path (c.settle.ensures.size ∙ ap slab_size c.index_mut.ensures.value)

pub returns-clause-synced : goal.returns-clause-synced
returns-clause-synced c =
    let slabs = c.args.self.now.slabs.items in
    let dev = c.args.dev.now in
    let i = c.first_of-i.result in
    let d = c.index_mut.result.now in
    let first = subst (λ (l : List Slab). IsFirst slab_path l dev i) c.deref.ensures.value c.first_of-i.ensures.first in
    let v = c.settle.new.self in
    let path = c.settle.ensures.path ∙ ap slab_path c.index_mut.ensures.value ∙ first_path slab_path slabs dev i d first in
    let synced = subst (λ (s : Slab). Synced (slab_state s) (slab_state v)) c.index_mut.ensures.value c.settle.ensures.synced in
    let change = one_device slab_path slab_state slabs dev i v d Synced first path synced in
    both_now slab_path slab_state c.args.self.now.past.value c.remember.new.past.value slabs (slice_set slabs i v) (λ a b. Synced (a dev) (b dev)) change.here

pub returns-clause-time : goal.returns-clause-time
returns-clause-time c =
    let slabs = c.args.self.now.slabs.items in
    let dev = c.args.dev.now in
    let i = c.first_of-i.result in
    let d = c.index_mut.result.now in
    let first = subst (λ (l : List Slab). IsFirst slab_path l dev i) c.deref.ensures.value c.first_of-i.ensures.first in
    let v = c.settle.new.self in
    let path = c.settle.ensures.path ∙ ap slab_path c.index_mut.ensures.value ∙ first_path slab_path slabs dev i d first in
    let synced = subst (λ (s : Slab). Synced (slab_state s) (slab_state v)) c.index_mut.ensures.value c.settle.ensures.synced in
    let change = one_device slab_path slab_state slabs dev i v d Settling first path (synced_settles (slab_state (get_or slabs i d)) (slab_state v) synced) in
    goes past_of list_of slab_path slab_size slab_state c.args.self.now _ c.remember.ensures.depth c.remember.ensures.was (OnDevice dev Settling) change

pub returns-clause-reads : goal.returns-clause-reads
returns-clause-reads c =
    let slabs = c.args.self.now.slabs.items in
    let dev = c.args.dev.now in
    let i = c.first_of-i.result in
    let d = c.index_mut.result.now in
    let first = subst (λ (l : List Slab). IsFirst slab_path l dev i) c.deref.ensures.value c.first_of-i.ensures.first in
    let v = c.settle.new.self in
    let path = c.settle.ensures.path ∙ ap slab_path c.index_mut.ensures.value ∙ first_path slab_path slabs dev i d first in
    let kept = c.settle.ensures.reads ∙ ap slab_reads c.index_mut.ensures.value in
    (λ k p. look_set_kept slab_path slab_reads 0 slabs dev i v d p first path kept k)
