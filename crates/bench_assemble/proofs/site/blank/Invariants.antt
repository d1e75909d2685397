use Rattle.st_memrack.specs.Blank.{AreDistinct}
use Rattle.bench_assemble.proofs.site.blank.Given as goal

abbrev pub invariant-loop-path : goal.invariant-loop-path
invariant-loop-path l = AreDistinct l.list.items
