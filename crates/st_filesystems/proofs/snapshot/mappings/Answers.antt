use Rattle.std.proofs.Common.{◌≡◌, ◌≤◌, ◌^◌, length, arith}
use Rattle.st_model.specs.Sums.{mappings}
use Rattle.st_filesystems.proofs.Sizes.{next_within}
use Rattle.st_filesystems.proofs.snapshot.mappings.Goals as goal

pub overflow_add-sum : goal.overflow_add-sum
overflow_add-sum c =
    let within = next_within c.items-fs-items.result.now c.args.pool.now.filesystems c.loop-fs.fs-index c.loop-fs.sum (mappings c.args.pool.now) c.fs-item.result
    c.items-fs-items.ensures c.loop-fs-test.true c.fs-item.is c.loop-fs.invariant in
    let most : mappings c.args.pool.now ≤ 2 ^ 15 = c.requires.mappings in
    let mapped : c.len.result ≡ length c.fs-item.result.map = c.len.ensures in
    omega (arith, within, most, mapped)
