use Rattle.std.proofs.Common.{◌≡◌, map, drop}
use Rattle.st_table.specs.inner.Sound.{marked, path_in}
use Rattle.st_order.specs.Sorted.{IsRising}
use Rattle.st_table.proofs.device.mark.Given as goal

abbrev pub invariant-loop-path : goal.invariant-loop-path
invariant-loop-path l = record {
  rising : IsRising (map path_in l.devices);
  rest : map (marked (drop l.path-index l.paths) l.user) l.devices ≡ map (marked l.paths l.user) l.initial.devices;
}
