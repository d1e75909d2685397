use Rattle.std.proofs.Common.{◌≡◌, take}
use Rattle.st_model.specs.steps.Check.{resized}
use Rattle.st_checking.proofs.sizes.resize.Given as goal

abbrev pub invariant-loop-i : goal.invariant-loop-i
invariant-loop-i l = l.filesystems ≡ resized l.initial.filesystems (take l.i l.sizes)
