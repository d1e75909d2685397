-- the rows of a pool's filesystems, in order of creation, and what the calls make of them
use Rattle.std.specs.Prelude.{ℕ, ◌≢◌, ◌<◌, ◌==◌, List, map, filter, find, Bool, false, not, bytes_eq, Option, None, Some, option_map, if◌then◌else◌}
use Rattle.std.specs.List.{list_any}
use Rattle.st_units.specs.declared.rows.FsRow.{FsRow}
use Rattle.st_model.specs.Look.{Text}
use Rattle.st_model.specs.Merged.{is_origin}
use Rattle.st_model.specs.ValidPool.{EachPair}

-- a filesystem and one that was created after it
pub record AreApart (older younger : FsRow) : Type 0 where
  pub serials : older.serial < younger.serial
  pub names : older.name ≢ younger.name

-- serials rise in order of creation, and names differ
abbrev pub AreRows : List FsRow → Type 0
AreRows = EachPair AreApart

abbrev pub has_serial : ℕ → FsRow → Bool
has_serial serial row = row.serial == serial

abbrev pub has_name : Text → FsRow → Bool
has_name name row = bytes_eq row.name name

-- the filesystem of this serial
abbrev pub row_at : ℕ → List FsRow → Option FsRow
row_at serial = find (has_serial serial)

-- the serial of the filesystem of this name
abbrev pub serial_of : Text → List FsRow → Option ℕ
serial_of name rows = option_map (λ (row : FsRow). row.serial) (find (has_name name) rows)

abbrev pub is_there : ℕ → List FsRow → Bool
is_there serial = list_any (has_serial serial)

abbrev pub is_called : Text → List FsRow → Bool
is_called name = list_any (has_name name)

-- the other filesystems
abbrev pub without : ℕ → List FsRow → List FsRow
without serial = filter (λ row. not (has_serial serial row))

-- the filesystem of this serial is changed so
abbrev pub changed : (FsRow → FsRow) → ℕ → List FsRow → List FsRow
changed change serial = map (λ row. if has_serial serial row then change row else row)

abbrev pub sized : ℕ → FsRow → FsRow
sized size row = record row { size = size }

abbrev pub from : Option ℕ → FsRow → FsRow
from origin row = record row { origin = origin }

-- where its origin goes, a filesystem gets the origin of the one that goes, and is no longer marked
abbrev pub passed_on : FsRow → FsRow → FsRow
passed_on gone row = if is_origin gone.serial row.origin then record row { origin = gone.origin; merge = false } else row

abbrev pub passed_by : Option FsRow → FsRow → FsRow
passed_by None row = row
passed_by (Some gone) row = passed_on gone row

-- the filesystem of this serial goes
abbrev pub destroyed : ℕ → List FsRow → List FsRow
destroyed serial rows = map (passed_by (row_at serial rows)) (without serial rows)
