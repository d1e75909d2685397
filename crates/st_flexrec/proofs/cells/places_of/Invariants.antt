use Rattle.std.proofs.Common.{◌≡◌, take, map}
use Rattle.st_flexrec.specs.Cells.{place_of}
use Rattle.st_flexrec.proofs.cells.places_of.Given as goal

abbrev pub invariant-loop-row : goal.invariant-loop-row
invariant-loop-row l = l.places.items ≡ map place_of (take l.row-index l.rows)
