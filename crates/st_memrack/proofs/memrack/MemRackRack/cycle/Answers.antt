use Rattle.std.proofs.Common.{subst, sym}
use Rattle.st_rack.specs.Calls.{Devices, Rises}
use Rattle.st_rack.specs.Moments.{AllCut}
use Rattle.st_shelf.specs.Shelf.{rows_of}
use Rattle.st_shelf.proofs.Change.{goes}
use Rattle.st_sparse.specs.Sparse.{sparse_path, sparse_size, sparse_state, sparse_reads}
use Rattle.st_memrack.specs.Ends.{CycleEnds}
use Rattle.st_memrack.proofs.Zip.{rows_zip, look_zip, cut_zip}
use Rattle.st_memrack.proofs.Mem.{past_of, list_of}
use Rattle.st_memrack.proofs.Whole.{both_now}
use Rattle.st_memrack.proofs.memrack.MemRackRack.cycle.Goals as goal

pub invariant_of-self : goal.invariant_of-self
invariant_of-self c =
    let slabs = c.args.self.now.devices.items in
    let now = c.cycle_all.new.devices.items in
    record { rises = subst (λ (rows : Devices). Rises rows) (sym (rows_zip (CycleEnds c.args.self.now.pick) sparse_path (λ a b r. r.path) sparse_size (λ a b r. r.size) slabs now c.cycle_all.ensures.each)) c.args.self.now.rises }

pub returns-clause-devs : goal.returns-clause-devs
returns-clause-devs c =
    let slabs = c.args.self.now.devices.items in
    let now = c.cycle_all.new.devices.items in
    rows_zip (CycleEnds c.args.self.now.pick) sparse_path (λ a b r. r.path) sparse_size (λ a b r. r.size) slabs now c.cycle_all.ensures.each

pub returns-clause-cut : goal.returns-clause-cut
returns-clause-cut c =
    let slabs = c.args.self.now.devices.items in
    let now = c.cycle_all.new.devices.items in
    both_now sparse_path sparse_state c.args.self.now.past.value c.remember.new.past.value slabs now (AllCut (rows_of sparse_path sparse_size slabs))
    (cut_zip (CycleEnds c.args.self.now.pick) sparse_path (λ a b r. r.path) sparse_size (λ a b r. r.size) sparse_state (λ a b r. r.cut) slabs now c.cycle_all.ensures.each)

pub returns-clause-time : goal.returns-clause-time
returns-clause-time c =
    let slabs = c.args.self.now.devices.items in
    let now = c.cycle_all.new.devices.items in
    goes past_of list_of sparse_path sparse_size sparse_state c.args.self.now _ c.remember.ensures.depth c.remember.ensures.was (AllCut (rows_of sparse_path sparse_size slabs))
    (cut_zip (CycleEnds c.args.self.now.pick) sparse_path (λ a b r. r.path) sparse_size (λ a b r. r.size) sparse_state (λ a b r. r.cut) slabs now c.cycle_all.ensures.each)

pub returns-clause-reads : goal.returns-clause-reads
returns-clause-reads c =
    let slabs = c.args.self.now.devices.items in
    let now = c.cycle_all.new.devices.items in
    (λ k p. look_zip (CycleEnds c.args.self.now.pick) sparse_path (λ a b r. r.path) sparse_reads 0 (λ a b r. r.reads) slabs now p c.cycle_all.ensures.each k)
