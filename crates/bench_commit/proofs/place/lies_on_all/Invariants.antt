use Rattle.std.proofs.Common.{◌≡◌, ◌<◌, ℕ, Some}
use Rattle.std.specs.List.{slice_get}
use Rattle.st_rack.specs.Device.{Path}
use Rattle.st_slots.specs.Places.{Lies}
use Rattle.bench_commit.proofs.place.lies_on_all.Given as goal

abbrev pub invariant-loop-i : goal.invariant-loop-i
invariant-loop-i g l = record {
  lie : (j : ℕ) (d : Path) → j < l.i → slice_get l.devs j ≡ Some d → Lies (g.R.Rack.devs l.rack) d l.area;
}
