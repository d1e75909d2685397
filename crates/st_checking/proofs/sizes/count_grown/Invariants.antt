use Rattle.std.proofs.Common.{◌≡◌, ◌≤◌, ◌+◌, drop}
use Rattle.st_model.specs.steps.Check.{count_grown}
use Rattle.st_checking.proofs.sizes.count_grown.Given as goal

abbrev pub invariant-loop-i : goal.invariant-loop-i
invariant-loop-i l = (l.count + count_grown (drop l.i l.filesystems) (drop l.i l.sizes) ≡ count_grown l.filesystems l.sizes) × (l.count ≤ l.i)
