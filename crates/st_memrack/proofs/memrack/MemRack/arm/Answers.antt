use Rattle.std.proofs.Common.{refl, sym, subst, ap}
use Rattle.st_rack.specs.Device.{State}
use Rattle.st_rack.specs.Calls.{Devices, Rises}
use Rattle.st_shelf.specs.Shelf.{no_device}
use Rattle.st_shelf.specs.Past.{was}
use Rattle.st_sparse.specs.Sparse.{sparse_path, sparse_size, sparse_state, sparse_reads}
use Rattle.st_sparse.specs.Arms.{new_arm}
use Rattle.st_memrack.specs.Ends.{ArmEnds}
use Rattle.st_memrack.proofs.One.{rows_one, look_same}
use Rattle.st_memrack.proofs.Mem.{past_of, list_of}
use Rattle.st_memrack.proofs.memrack.MemRack.arm.Goals as goal

pub invariant_of-self : goal.invariant_of-self
invariant_of-self c =
    let rel = ArmEnds (new_arm c.args.kind c.args.first c.args.last c.args.skip c.args.how) c.arm_on.result in
    record { rises = subst (λ (rows : Devices). Rises rows) (sym (rows_one sparse_path rel c.args.dev.now (list_of c.args.self.now) c.arm_on.new.devices.items c.arm_on.ensures.one sparse_size (λ a b r. r.size))) c.args.self.now.rises }

pub returns-clause-same : goal.returns-clause-same
returns-clause-same c =
    let rel = ArmEnds (new_arm c.args.kind c.args.first c.args.last c.args.skip c.args.how) c.arm_on.result in
    let dev = c.args.dev.now in
    let l = list_of c.args.self.now in
    let new = c.arm_on.new.devices.items in
    let one = c.arm_on.ensures.one in
    record {
      devices = rows_one sparse_path rel dev l new one sparse_size (λ a b r. r.size);
      clock = refl;
      states = ap (λ (s : State). was sparse_path sparse_state (past_of c.args.self.now) s) (λ k p. look_same sparse_path rel dev l new one sparse_state no_device (λ a b r. r.state) p k);
      counts = λ k p. look_same sparse_path rel dev l new one sparse_reads 0 (λ a b r. r.reads) p k;
    }
