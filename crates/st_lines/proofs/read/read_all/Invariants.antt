use Rattle.st_lines.proofs.Progress.{ReadSoFar}
use Rattle.st_lines.proofs.read.read_all.Given as goal

abbrev pub invariant-loop : goal.invariant-loop
invariant-loop g l = ReadSoFar g.S.Source.left g.S.Source.faults l.fn.source l.source l.input.items l.piece.items l.counter
