use Rattle.std.proofs.Common.{take}
use Rattle.st_flexrec.proofs.Marks.{Marked}
use Rattle.st_flexrec.proofs.cells.are_named.Given as goal

abbrev pub invariant-loop-mapping : goal.invariant-loop-mapping
invariant-loop-mapping l = Marked l.cells (take l.mapping-index l.mappings) l.marks.items
