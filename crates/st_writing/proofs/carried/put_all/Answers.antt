use Rattle.std.proofs.Common.{◌≡◌, ◌*◌, ◌≤◌, ◌+◌, ℕ, List, take, drop, ap, ◌∙◌, arith}
use Rattle.st_limits.specs.declared.TheConstants.{SECTOR_BYTES}
use Rattle.st_writing.specs.declared.carried.Carried.{Carried}
use Rattle.st_writing.specs.inner.Carry.{carried, carried_on}
use Rattle.st_writing.proofs.Puts.{more_carried, next_on}
use Rattle.st_writing.proofs.carried.put_all.Goals as goal

pub loop-stretch-preserved : goal.loop-stretch-preserved
loop-stretch-preserved c =
    let p = c.args.pool.now in
    let fs = c.args.fs.now in
    let s = c.stretch-item.result in
    let left = c.loop-stretch.left.now in
    let long = c.sectors.ensures.value in
    let rest : c.rest-left.result.now ≡ drop (SECTOR_BYTES * s.sectors) left = c.rest-left.ensures ∙ ap (λ (n : ℕ). drop (SECTOR_BYTES * n) left) long in
    let piece : c.firsts.result.now ≡ take (SECTOR_BYTES * s.sectors) left = c.firsts.ensures ∙ ap (λ (n : ℕ). take (SECTOR_BYTES * n) left) long in
    let done : c.put_one.new.done ≡ carried_on p fs s (take (SECTOR_BYTES * s.sectors) left) c.loop-stretch.done =
    c.in_ok-put_one.ensures ∙ ap (λ (b : List ℕ). carried_on p fs s b c.loop-stretch.done) piece in
    let next : c.put_one.new.done.next ≡ (carried_on p fs s (take (SECTOR_BYTES * s.sectors) left) c.loop-stretch.done).next = ap (λ (x : Carried). x.next) done in
    let most = next_on p fs s (take (SECTOR_BYTES * s.sectors) left) c.loop-stretch.done in
    let so_far = c.loop-stretch.invariant.next in
    record {
      rest = more_carried p fs c.args.stretches.now c.loop-stretch.stretch-index s left c.rest-left.result.now c.loop-stretch.done c.put_one.new.done c.loop-stretch-test.true c.stretch-item.is rest done
          ∙ c.loop-stretch.invariant.rest;
      next = omega (arith, next, most, so_far);
    }
