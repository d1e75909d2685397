-- What holds of the rows of the cells.
use Rattle.std.specs.Prelude.{◌≡◌, ℕ, ◌<◌, Bool, true, ◌&&◌, nat_le, nat_lt, nat_eq, ◌==◌, List, length, map}
use Rattle.std.specs.List.{list_all, list_any, IsDistinct}
use Rattle.st_flexrec.specs.declared.rows.MapRow.{MapRow}
use Rattle.st_flexrec.specs.declared.rows.CellRow.{CellRow}
use Rattle.st_flexrec.specs.Order.{Rises}

abbrev pub has_lower_number : CellRow → CellRow → Bool
has_lower_number c later = nat_lt c.cell later.cell

-- a number from 1 and below the next
abbrev pub is_cell_row : ℕ → CellRow → Bool
is_cell_row next c = nat_le 1 c.cell && nat_lt c.cell next

abbrev pub place_of : CellRow → ℕ
place_of c = c.place

-- no two cells have one place
abbrev pub HaveOwnPlaces : List CellRow → Type 0
HaveOwnPlaces cells = IsDistinct nat_eq (map place_of cells)

-- each of so many rows of cells is named by a mapping
abbrev pub AllAreNamed : ℕ → List MapRow → Type 0
AllAreNamed cells mappings = (k : ℕ) → k < cells → list_any (λ m. m.cell == k) mappings ≡ true

-- the conditions on these rows, where this is the next cell and these are the mappings
pub record CellsFit (next : ℕ) (mappings : List MapRow) (rows : List CellRow) : Type 0 where
  pub numbers_rise : Rises has_lower_number rows
  pub each_fits : list_all (is_cell_row next) rows ≡ true
  pub places : HaveOwnPlaces rows
  pub named : AllAreNamed (length rows) mappings
