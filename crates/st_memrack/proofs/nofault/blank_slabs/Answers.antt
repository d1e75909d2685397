use Rattle.std.proofs.Common.{◌≡◌, ◌-◌, ◌<◌, suc, ℕ, length, List, get_or, subst, sym, ◌∙◌, ap, arith}
use Rattle.st_rack.specs.Device.{Path}
use Rattle.st_shelf.proofs.Leave.{same_at}
use Rattle.st_memrack.specs.Slab.{slab_path, slab_size, slab_state, slab_reads}
use Rattle.st_memrack.specs.Blank.{Filled}
use Rattle.st_memrack.specs.declared.slab.Slab.{Slab}
use Rattle.st_memrack.proofs.Fill.{filled_none, filled_more}
use Rattle.st_memrack.proofs.nofault.blank_slabs.Goals as goal

pub loop-left-init : goal.loop-left-init
loop-left-init c = record {
  filled = subst (λ (l : List Slab). Filled slab_path slab_size slab_state slab_reads c.args.devs.now (length c.args.devs.now) l) (sym c.in_ok-slabs.ensures.items) (filled_none slab_path slab_size slab_state slab_reads c.args.devs.now (length c.args.devs.now) (omega arith) (omega arith));
  within = omega arith;
  room = omega (arith, c.in_ok-slabs.ensures.len, c.in_ok-slabs.ensures.capacity);
}

pub loop-left-preserved : goal.loop-left-preserved
loop-left-preserved c =
    let given = c.args.devs.now in
    let k = c.loop-left.left - 1 in
    let left : c.loop-left.left ≡ suc k = omega (arith, c.loop-left-test.true) in
    let lt : k < length given = omega (arith, c.loop-left-test.true, c.loop-left.invariant.within) in
    let d = c.index-devs-left.result in
    let there = same_at given k c.index-devs-left-in-loop-left.result d lt in
    let size : slab_size c.in_ok-slab.slab ≡ (get_or given k d).1 = c.in_ok-slab.ensures.size ∙ ap (λ (r : Path × ℕ). r.1) there in
    record {
      filled = subst (λ (l : List Slab). Filled slab_path slab_size slab_state slab_reads given k l) (sym c.insert.ensures.items)
          (filled_more slab_path slab_size slab_state slab_reads given k c.loop-left.left d c.loop-left.slabs.items c.in_ok-slab.slab left c.requires lt c.loop-left.invariant.filled c.in_ok-slab.ensures.path size c.in_ok-slab.ensures.state c.in_ok-slab.ensures.reads);
      within = omega (arith, c.loop-left.invariant.within);
      room = omega (arith, c.insert.ensures.len, c.insert.ensures.capacity, c.loop-left.invariant.room, left);
    }
