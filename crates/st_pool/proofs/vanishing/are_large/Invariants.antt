use Rattle.std.proofs.Common.{◌≡◌, ◌<◌, ◌≤◌, ℕ, Some}
use Rattle.std.specs.List.{slice_get}
use Rattle.st_rack.specs.Device.{Path}
use Rattle.st_rack.specs.Calls.{Has}
use Rattle.st_pool.proofs.vanishing.are_large.Given as goal

abbrev pub invariant-loop-i : goal.invariant-loop-i
invariant-loop-i g l = record {
  large : (j : ℕ) (d : Path) → j < l.i → slice_get l.devs j ≡ Some d → (n : ℕ) × Has (g.R.Rack.devs l.rack) d n × (8192 ≤ n);
}
