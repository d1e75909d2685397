use Rattle.st_memrack.specs.Blank.{AreDistinct}
use Rattle.test_assemble.proofs.several.many.Given as goal

abbrev pub invariant-loop-path : goal.invariant-loop-path
invariant-loop-path l = AreDistinct l.list.items
