use Rattle.st_memrack.specs.Blank.{AreDistinct}
use Rattle.test_assemble.proofs.site.rack_of.Given as goal

abbrev pub invariant-loop-one : goal.invariant-loop-one
invariant-loop-one l = AreDistinct l.list.items
