use Rattle.std.proofs.Common.{length, ◌-◌}
use Rattle.st_lines.proofs.Cuts.{CutSoFar}
use Rattle.st_lines.proofs.lines.spans_of.Given as goal

abbrev pub invariant-loop-from : goal.invariant-loop-from
invariant-loop-from l = CutSoFar l.text l.spans.items l.from

abbrev pub decreases-loop-from : goal.decreases-loop-from
decreases-loop-from l = length l.text - l.from
