use Rattle.std.proofs.Common.{◌≡◌, ◌++◌, drop}
use Rattle.st_datatier.specs.Segments.{segment_rows}
use Rattle.st_datatier.proofs.segments.segment_rows.Given as goal

abbrev pub invariant-loop-number : goal.invariant-loop-number
invariant-loop-number l = l.segments ++ segment_rows l.number l.left (drop l.number l.rows) ≡ segment_rows 0 l.blocks l.rows
