use Rattle.std.proofs.Common.{subst, sym}
use Rattle.st_rack.specs.Calls.{Devices, Rises}
use Rattle.st_rack.specs.Moments.{AllCut}
use Rattle.st_shelf.specs.Shelf.{rows_of}
use Rattle.st_shelf.proofs.Change.{goes}
use Rattle.st_memrack.specs.Slab.{slab_path, slab_size, slab_state, slab_reads}
use Rattle.st_memrack.specs.Blank.{IsSettled}
use Rattle.st_memrack.proofs.Zip.{rows_zip, look_zip, cut_zip}
use Rattle.st_memrack.proofs.Whole.{past_of, list_of, both_now, settled_cut}
use Rattle.st_memrack.proofs.nofault.NoFaultRackRack.cycle.Goals as goal

pub invariant_of-self : goal.invariant_of-self
invariant_of-self c =
    let slabs = c.args.self.now.slabs.items in
    let now = c.settle_all.new.slabs.items in
    record { rises = subst (λ (rows : Devices). Rises rows) (sym (rows_zip IsSettled slab_path (λ a b r. r.path) slab_size (λ a b r. r.size) slabs now c.settle_all.ensures.settled)) c.args.self.now.rises }

pub returns-clause-devs : goal.returns-clause-devs
returns-clause-devs c =
    let slabs = c.args.self.now.slabs.items in
    let now = c.settle_all.new.slabs.items in
    rows_zip IsSettled slab_path (λ a b r. r.path) slab_size (λ a b r. r.size) slabs now c.settle_all.ensures.settled

pub returns-clause-cut : goal.returns-clause-cut
returns-clause-cut c =
    let slabs = c.args.self.now.slabs.items in
    let now = c.settle_all.new.slabs.items in
    both_now slab_path slab_state c.args.self.now.past.value c.remember.new.past.value slabs now (AllCut (rows_of slab_path slab_size slabs))
    (cut_zip IsSettled slab_path (λ a b r. r.path) slab_size (λ a b r. r.size) slab_state settled_cut slabs now c.settle_all.ensures.settled)

pub returns-clause-time : goal.returns-clause-time
returns-clause-time c =
    let slabs = c.args.self.now.slabs.items in
    let now = c.settle_all.new.slabs.items in
    goes past_of list_of slab_path slab_size slab_state c.args.self.now _ c.remember.ensures.depth c.remember.ensures.was (AllCut (rows_of slab_path slab_size slabs))
    (cut_zip IsSettled slab_path (λ a b r. r.path) slab_size (λ a b r. r.size) slab_state settled_cut slabs now c.settle_all.ensures.settled)

pub returns-clause-reads : goal.returns-clause-reads
returns-clause-reads c =
    let slabs = c.args.self.now.slabs.items in
    let now = c.settle_all.new.slabs.items in
    (λ k p. look_zip IsSettled slab_path (λ a b r. r.path) slab_reads 0 (λ a b r. r.reads) slabs now p c.settle_all.ensures.settled k)
