use Rattle.std.proofs.Common.{◌≡◌, take}
use Rattle.st_dividing.specs.Divided.{present_of}
use Rattle.st_dividing.proofs.dividing.present_paths.Given as goal

abbrev pub invariant-loop-i : goal.invariant-loop-i
invariant-loop-i g l = record {
  list : l.list ≡ present_of (g.R.Rack.devs l.rack) (take l.i l.rows);
}
