-- Lists without a path that stands twice.
use Rattle.std.specs.Prelude.{ℕ, Bool, true, List, [], ◌∷◌, ◌&&◌, not}
use Rattle.std.specs.List.{list_all}
use Rattle.std.specs.Str.{bytes_eq}
use Rattle.st_rack.specs.Device.{Path}
use Rattle.st_rack.specs.Calls.{Devices}

abbrev pub differs : Path → Path → Bool
differs path other = not (bytes_eq path other)

abbrev pub all_differ : List Path → Bool
all_differ [] = true
all_differ (path ∷ later) = list_all (differs path) later && all_differ later

abbrev pub all_rows_differ : Devices → Bool
all_rows_differ [] = true
all_rows_differ (row ∷ later) = list_all (λ (other : Path × ℕ). differs row.0 other.0) later && all_rows_differ later
