use Rattle.std.proofs.Common.{◌≡◌, ◌-◌, ◌<◌, suc, ℕ, length, List, get_or, subst, sym, ◌∙◌, ap, arith}
use Rattle.st_rack.specs.Device.{Path}
use Rattle.st_shelf.proofs.Leave.{same_at}
use Rattle.st_sparse.specs.Sparse.{sparse_path, sparse_size, sparse_state, sparse_reads}
use Rattle.std.specs.List.{AllByRecursion}
use Rattle.st_memrack.specs.Blank.{Filled, IsUnarmed}
use Rattle.st_sparse.specs.declared.sparse.Sparse.{Sparse}
use Rattle.st_memrack.proofs.Fill.{filled_none, filled_more, all-insert_in}
use Rattle.st_memrack.proofs.memrack.blank_devices.Goals as goal

pub loop-left-init : goal.loop-left-init
loop-left-init c = record {
  filled = subst (λ (l : List Sparse). Filled sparse_path sparse_size sparse_state sparse_reads c.args.devs.now (length c.args.devs.now) l) (sym c.in_ok-devices.ensures.items) (filled_none sparse_path sparse_size sparse_state sparse_reads c.args.devs.now (length c.args.devs.now) (omega arith) (omega arith));
  unarmed = subst (λ (l : List Sparse). AllByRecursion IsUnarmed l) (sym c.in_ok-devices.ensures.items) tt;
  within = omega arith;
  room = omega (arith, c.in_ok-devices.ensures.len, c.in_ok-devices.ensures.capacity);
}

pub loop-left-preserved : goal.loop-left-preserved
loop-left-preserved c =
    let given = c.args.devs.now in
    let k = c.loop-left.left - 1 in
    let left : c.loop-left.left ≡ suc k = omega (arith, c.loop-left-test.true) in
    let lt : k < length given = omega (arith, c.loop-left-test.true, c.loop-left.invariant.within) in
    let d = c.index-devs-left.result in
    let there = same_at given k c.index-devs-left-in-loop-left.result d lt in
    let size : sparse_size c.in_ok-device.device ≡ (get_or given k d).1 = c.in_ok-device.ensures.size ∙ ap (λ (r : Path × ℕ). r.1) there in
    record {
      filled = subst (λ (l : List Sparse). Filled sparse_path sparse_size sparse_state sparse_reads given k l) (sym c.insert.ensures.items)
          (filled_more sparse_path sparse_size sparse_state sparse_reads given k c.loop-left.left d c.loop-left.devices.items c.in_ok-device.device left c.requires lt c.loop-left.invariant.filled c.in_ok-device.ensures.path size c.in_ok-device.ensures.state c.in_ok-device.ensures.reads);
      unarmed = subst (λ (l : List Sparse). AllByRecursion IsUnarmed l) (sym c.insert.ensures.items)
          (all-insert_in sparse_path IsUnarmed c.in_ok-device.device c.loop-left.devices.items (record { no_arms = c.in_ok-device.ensures.arms; works = c.in_ok-device.ensures.works; unwritten = c.in_ok-device.ensures.unwritten }) c.loop-left.invariant.unarmed);
      within = omega (arith, c.loop-left.invariant.within);
      room = omega (arith, c.insert.ensures.len, c.insert.ensures.capacity, c.loop-left.invariant.room, left);
    }
