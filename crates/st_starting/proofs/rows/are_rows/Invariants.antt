use Rattle.std.proofs.Common.{◌≡◌, ◌<◌, ℕ, Some}
use Rattle.std.specs.List.{slice_get}
use Rattle.st_units.specs.declared.rows.DevRow.{DevRow}
use Rattle.st_rack.specs.Device.{Path}
use Rattle.st_rack.specs.Calls.{size_in}
use Rattle.st_image.specs.Kept.{as_pair}
use Rattle.st_starting.proofs.rows.are_rows.Given as goal

abbrev pub invariant-loop-i : goal.invariant-loop-i
invariant-loop-i g l = record {
  same : (j : ℕ) (row : DevRow) (d : Path) → j < l.i → slice_get l.rows j ≡ Some row → slice_get l.devs j ≡ Some d → as_pair row ≡ (d, size_in (g.R.Rack.devs l.rack) d);
}
