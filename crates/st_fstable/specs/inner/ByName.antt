-- the order of the names, which the table keeps as serials
use Rattle.std.specs.Prelude.{◌≡◌, ℕ, List, [], map, Option, None, Some}
use Rattle.st_units.specs.declared.rows.FsRow.{FsRow}
use Rattle.st_order.specs.Sorted.{Text, ordered}
use Rattle.st_fstable.specs.Rows.{AreRows, row_at}

abbrev pub name_of : FsRow → Text
name_of row = row.name

abbrev pub serial_in : FsRow → ℕ
serial_in row = row.serial

abbrev pub name_or_none : Option FsRow → Text
name_or_none None = []
name_or_none (Some row) = row.name

-- the name that the filesystem of this serial has
abbrev pub name_at : List FsRow → ℕ → Text
name_at rows serial = name_or_none (row_at serial rows)

-- the serials stand in byte order of the names
pub record IsIndexed (rows : List FsRow) (names : List ℕ) : Type 0 where
  pub apart : AreRows rows
  pub order : names ≡ map serial_in (ordered name_of rows)
