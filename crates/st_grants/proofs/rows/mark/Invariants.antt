use Rattle.std.proofs.Common.{◌≡◌, ◌++◌, take, drop}
use Rattle.std.specs.Prelude.{map}
use Rattle.st_wants.specs.Lock.{marked}
use Rattle.st_grants.proofs.rows.mark.Given as goal

abbrev pub invariant-loop-row : goal.invariant-loop-row
invariant-loop-row l = l.row-items ≡ map (marked l.ticket) (take l.row-index l.initial.row-items) ++ drop l.row-index l.initial.row-items
