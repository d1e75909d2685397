use Rattle.std.proofs.Common.{◌≡◌, ◌++◌, take, drop}
use Rattle.std.specs.Prelude.{map}
use Rattle.st_fstable.specs.Rows.{passed_on}
use Rattle.st_fstable.proofs.rows.pass_on.Given as goal

abbrev pub invariant-loop-row : goal.invariant-loop-row
invariant-loop-row l = l.row-items ≡ map (passed_on l.gone) (take l.row-index l.initial.row-items) ++ drop l.row-index l.initial.row-items
