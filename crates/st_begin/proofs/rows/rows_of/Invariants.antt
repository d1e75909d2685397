use Rattle.std.proofs.Common.{◌≡◌, take, map}
use Rattle.st_image.specs.Survivors.{row_of}
use Rattle.st_begin.proofs.rows.rows_of.Given as goal

abbrev pub invariant-loop-i : goal.invariant-loop-i
invariant-loop-i g l = record {
  rows : l.rows ≡ map row_of (take l.i (g.R.Rack.devs l.rack));
}
