use Rattle.std.proofs.Common.{◌*◌, Result, OnOk, subst, sym, ◌∙◌, ap}
use Rattle.st_rack.specs.Device.{DevState, State, Touched, Written}
use Rattle.st_rack.specs.Calls.{Devices, Rises}
use Rattle.st_rack.specs.Moments.{OnDevice}
use Rattle.st_shelf.specs.Shelf.{no_device}
use Rattle.st_shelf.proofs.Change.{goes}
use Rattle.st_sparse.specs.Sparse.{sparse_path, sparse_size, sparse_state, sparse_reads}
use Rattle.st_sparse.specs.declared.sparse.WriteFault.{WriteFault}
use Rattle.st_memrack.specs.Ends.{WriteEnds}
use Rattle.st_memrack.proofs.One.{rows_one, look_after, look_same, on_device}
use Rattle.st_memrack.proofs.Whole.{now_is, both_now}
use Rattle.st_memrack.proofs.Mem.{past_of, list_of}
use Rattle.st_memrack.proofs.memrack.MemRackRack.write.Goals as goal

pub invariant_of-self : goal.invariant_of-self
invariant_of-self c =
    let rel = WriteEnds c.args.sector c.args.bytes.now c.args.self.now.pick c.write_on.result in
    record { rises = subst (λ (rows : Devices). Rises rows) (sym (rows_one sparse_path rel c.args.dev.now (list_of c.args.self.now) c.write_on.new.devices.items c.write_on.ensures.one sparse_size (λ a b r. r.size))) c.args.self.now.rises }

pub invariant_of-self-in-Err : goal.invariant_of-self-in-Err
invariant_of-self-in-Err c =
    let rel = WriteEnds c.args.sector c.args.bytes.now c.args.self.now.pick c.write_on.result in
    record { rises = subst (λ (rows : Devices). Rises rows) (sym (rows_one sparse_path rel c.args.dev.now (list_of c.args.self.now) c.write_on.new.devices.items c.write_on.ensures.one sparse_size (λ a b r. r.size))) c.args.self.now.rises }

pub returns-in-Ok-clause-written : goal.returns-in-Ok-clause-written
returns-in-Ok-clause-written c =
    let rel = WriteEnds c.args.sector c.args.bytes.now c.args.self.now.pick c.write_on.result in
    let dev = c.args.dev.now in
    let new = c.write_on.new.devices.items in
    let one = c.write_on.ensures.one in
    let state = ap (λ (s : State). s dev) (now_is sparse_path sparse_state c.remember.new.past.value new) ∙ look_after sparse_path rel dev (list_of c.args.self.now) new one sparse_state no_device in
    let given = subst (λ (r : Result (Unit {0}) WriteFault). OnOk r (Written (512 * c.args.sector) c.args.bytes.now (sparse_state one.after))) c.in-Ok.is one.here.given in
    subst (λ (s : DevState). Written (512 * c.args.sector) c.args.bytes.now s) (sym state) given

pub returns-in-Ok-clause-touched : goal.returns-in-Ok-clause-touched
returns-in-Ok-clause-touched c =
    let rel = WriteEnds c.args.sector c.args.bytes.now c.args.self.now.pick c.write_on.result in
    let dev = c.args.dev.now in
    let l = list_of c.args.self.now in
    let new = c.write_on.new.devices.items in
    let change = on_device sparse_path rel dev l new c.write_on.ensures.one sparse_state (Touched (512 * c.args.sector) c.args.bytes.now) (λ a b r. r.touched) in
    both_now sparse_path sparse_state (past_of c.args.self.now) c.remember.new.past.value l new (OnDevice dev (Touched (512 * c.args.sector) c.args.bytes.now)) change

pub returns-in-Ok-clause-time : goal.returns-in-Ok-clause-time
returns-in-Ok-clause-time c =
    let rel = WriteEnds c.args.sector c.args.bytes.now c.args.self.now.pick c.write_on.result in
    let dev = c.args.dev.now in
    let step = Touched (512 * c.args.sector) c.args.bytes.now in
    let change = on_device sparse_path rel dev (list_of c.args.self.now) c.write_on.new.devices.items c.write_on.ensures.one sparse_state step (λ a b r. r.touched) in
    goes past_of list_of sparse_path sparse_size sparse_state c.args.self.now _ c.remember.ensures.depth c.remember.ensures.was (OnDevice dev step) change

pub returns-in-Ok-clause-devs : goal.returns-in-Ok-clause-devs
returns-in-Ok-clause-devs c =
    let rel = WriteEnds c.args.sector c.args.bytes.now c.args.self.now.pick c.write_on.result in
    rows_one sparse_path rel c.args.dev.now (list_of c.args.self.now) c.write_on.new.devices.items c.write_on.ensures.one sparse_size (λ a b r. r.size)

pub returns-in-Ok-clause-reads : goal.returns-in-Ok-clause-reads
returns-in-Ok-clause-reads c =
    let rel = WriteEnds c.args.sector c.args.bytes.now c.args.self.now.pick c.write_on.result in
    λ k p. look_same sparse_path rel c.args.dev.now (list_of c.args.self.now) c.write_on.new.devices.items c.write_on.ensures.one sparse_reads 0 (λ a b r. r.reads) p k

pub returns-in-Err-clause-touched : goal.returns-in-Err-clause-touched
returns-in-Err-clause-touched c =
    let rel = WriteEnds c.args.sector c.args.bytes.now c.args.self.now.pick c.write_on.result in
    let dev = c.args.dev.now in
    let l = list_of c.args.self.now in
    let new = c.write_on.new.devices.items in
    let change = on_device sparse_path rel dev l new c.write_on.ensures.one sparse_state (Touched (512 * c.args.sector) c.args.bytes.now) (λ a b r. r.touched) in
    both_now sparse_path sparse_state (past_of c.args.self.now) c.remember.new.past.value l new (OnDevice dev (Touched (512 * c.args.sector) c.args.bytes.now)) change

pub returns-in-Err-clause-time : goal.returns-in-Err-clause-time
returns-in-Err-clause-time c =
    let rel = WriteEnds c.args.sector c.args.bytes.now c.args.self.now.pick c.write_on.result in
    let dev = c.args.dev.now in
    let step = Touched (512 * c.args.sector) c.args.bytes.now in
    let change = on_device sparse_path rel dev (list_of c.args.self.now) c.write_on.new.devices.items c.write_on.ensures.one sparse_state step (λ a b r. r.touched) in
    goes past_of list_of sparse_path sparse_size sparse_state c.args.self.now _ c.remember.ensures.depth c.remember.ensures.was (OnDevice dev step) change

pub returns-in-Err-clause-devs : goal.returns-in-Err-clause-devs
returns-in-Err-clause-devs c =
    let rel = WriteEnds c.args.sector c.args.bytes.now c.args.self.now.pick c.write_on.result in
    rows_one sparse_path rel c.args.dev.now (list_of c.args.self.now) c.write_on.new.devices.items c.write_on.ensures.one sparse_size (λ a b r. r.size)

pub returns-in-Err-clause-reads : goal.returns-in-Err-clause-reads
returns-in-Err-clause-reads c =
    let rel = WriteEnds c.args.sector c.args.bytes.now c.args.self.now.pick c.write_on.result in
    λ k p. look_same sparse_path rel c.args.dev.now (list_of c.args.self.now) c.write_on.new.devices.items c.write_on.ensures.one sparse_reads 0 (λ a b r. r.reads) p k
