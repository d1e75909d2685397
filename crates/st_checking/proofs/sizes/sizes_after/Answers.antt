use Rattle.std.proofs.Common.{arith}
use Rattle.st_checking.proofs.Volumes.{behind_few}
use Rattle.st_checking.proofs.sizes.sizes_after.Goals as goal

pub overflow_add-before : goal.overflow_add-before
overflow_add-before c =
    let few = behind_few c.args.filesystems.now c.loop-fs.fs-index c.fs-item.result c.loop-fs-test.true c.fs-item.is c.loop-fs.invariant.small in
    omega (arith, few, c.loop-fs.invariant.behind, c.loop-fs.invariant.before, c.loop-fs-test.true, c.requires.few)

pub size_after-size-requires-clause-others : goal.size_after-size-requires-clause-others
size_after-size-requires-clause-others c =
    let few = behind_few c.args.filesystems.now c.loop-fs.fs-index c.fs-item.result c.loop-fs-test.true c.fs-item.is c.loop-fs.invariant.small in
    omega (arith, few, c.loop-fs.invariant.behind, c.loop-fs.invariant.before, c.loop-fs-test.true, c.requires.few)
