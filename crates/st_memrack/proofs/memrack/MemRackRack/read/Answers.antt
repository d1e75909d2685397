use Rattle.std.proofs.Common.{◌≡◌, ℕ, ◌*◌, length, OnOk, subst, sym, ◌∙◌, ap}
use Rattle.st_rack.specs.Device.{DevState, State, cells}
use Rattle.st_units.specs.Causes.{Rose}
use Rattle.st_rack.specs.Calls.{Devices, Rises}
use Rattle.st_shelf.specs.Shelf.{look, no_device}
use Rattle.st_shelf.specs.Past.{was}
use Rattle.st_sparse.specs.Sparse.{sparse_path, sparse_size, sparse_state, sparse_reads}
use Rattle.st_memrack.specs.Ends.{ReadEnds}
use Rattle.st_memrack.proofs.One.{rows_one, look_before, look_after, look_same, look_other}
use Rattle.st_memrack.proofs.Whole.{now_is, rose_by}
use Rattle.st_memrack.proofs.Mem.{past_of, list_of}
use Rattle.st_memrack.proofs.memrack.MemRackRack.read.Goals as goal

pub invariant_of-self : goal.invariant_of-self
invariant_of-self c =
    let rel = ReadEnds c.args.sector c.args.buf.now c.read_on-result.new.buf c.read_on-result.result in
    record { rises = subst (λ (rows : Devices). Rises rows) (sym (rows_one sparse_path rel c.args.dev.now (list_of c.args.self.now) c.read_on-result.new.devices.items c.read_on-result.ensures.one sparse_size (λ a b r. r.size))) c.args.self.now.rises }

pub returns-clause-devs : goal.returns-clause-devs
returns-clause-devs c =
    let rel = ReadEnds c.args.sector c.args.buf.now c.read_on-result.new.buf c.read_on-result.result in
    rows_one sparse_path rel c.args.dev.now (list_of c.args.self.now) c.read_on-result.new.devices.items c.read_on-result.ensures.one sparse_size (λ a b r. r.size)

pub returns-clause-bytes : goal.returns-clause-bytes
returns-clause-bytes c =
    let rel = ReadEnds c.args.sector c.args.buf.now c.read_on-result.new.buf c.read_on-result.result in
    let dev = c.args.dev.now in
    let l = list_of c.args.self.now in
    let one = c.read_on-result.ensures.one in
    let state = ap (λ (s : State). s dev) (now_is sparse_path sparse_state (past_of c.args.self.now) l) ∙ look_before sparse_path rel dev l c.read_on-result.new.devices.items one sparse_state no_device in
    subst (λ (s : DevState). OnOk c.read_on-result.result (c.read_on-result.new.buf ≡ cells s.holds (512 * c.args.sector) (length c.args.buf.now))) (sym state) one.here.given

pub returns-clause-states : goal.returns-clause-states
returns-clause-states c =
    let rel = ReadEnds c.args.sector c.args.buf.now c.read_on-result.new.buf c.read_on-result.result in
    ap (λ (s : State). was sparse_path sparse_state (past_of c.args.self.now) s)
    (λ k p. look_same sparse_path rel c.args.dev.now (list_of c.args.self.now) c.read_on-result.new.devices.items c.read_on-result.ensures.one sparse_state no_device (λ a b r. r.state) p k)

pub returns-clause-counted : goal.returns-clause-counted
returns-clause-counted c =
    let rel = ReadEnds c.args.sector c.args.buf.now c.read_on-result.new.buf c.read_on-result.result in
    let dev = c.args.dev.now in
    let l = list_of c.args.self.now in
    let one = c.read_on-result.ensures.one in
    let new = c.read_on-result.new.devices.items in
    subst (λ (n : ℕ). Rose n (look sparse_path sparse_reads 0 new dev)) (sym (look_before sparse_path rel dev l new one sparse_reads 0))
    (subst (λ (n : ℕ). Rose (sparse_reads one.before) n) (sym (look_after sparse_path rel dev l new one sparse_reads 0))
    (rose_by (sparse_reads one.before) (sparse_reads one.after) one.here.counted))

pub returns-clause-others : goal.returns-clause-others
returns-clause-others c =
    let rel = ReadEnds c.args.sector c.args.buf.now c.read_on-result.new.buf c.read_on-result.result in
    λ p ne. look_other sparse_path rel c.args.dev.now (list_of c.args.self.now) c.read_on-result.new.devices.items c.read_on-result.ensures.one sparse_reads 0 p ne
