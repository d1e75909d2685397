-- A delta, and its one spelling.
use Rattle.std.specs.Prelude.{◌≡◌, ℕ, ◌+◌, ◌<◌, ◌^◌, Bool, true, false, nat_le, List, [], ◌∷◌, ◌++◌, length, Option, Some, None, is_some, if◌then◌else◌}
use Rattle.std.specs.Str.{bytes_eq}
use Rattle.st_fields.specs.Fields.{number_at, spelling}
use Rattle.st_recrows.specs.Rows.{AllFit, rows_text}
use Rattle.st_flexlog.specs.declared.delta.Delta.{Delta}
use Rattle.st_flexlog.specs.declared.delta.DeltaRow.{DeltaRow}

-- the rows in order
abbrev pub rows_before : Option DeltaRow → List DeltaRow → List DeltaRow
rows_before None rows = rows
rows_before (Some r) rows = r ∷ rows

abbrev pub rows_of : Delta → List DeltaRow
rows_of d = rows_before d.first (rows_before d.second [])

-- a row: the serial of its filesystem, the block, the place and the number of its cell
abbrev pub row_text : DeltaRow → List ℕ
row_text r = spelling 8 r.fs ++ (spelling 4 r.block ++ (spelling 4 r.place ++ spelling 8 r.cell))

-- the pool's serial, the next cell, how many rows, 6 zero bytes
abbrev pub head_text : ℕ → ℕ → ℕ → List ℕ
head_text serial next_cell count = spelling 8 serial ++ (spelling 8 next_cell ++ (spelling 2 count ++ spelling 6 0))

-- the head and the rows
abbrev pub delta_text : Delta → List ℕ
delta_text d = head_text d.serial d.next_cell (length (rows_of d)) ++ rows_text row_text (rows_of d)

-- what a row can hold
pub record RowFits (r : DeltaRow) : Type 0 where
  pub fs : r.fs < 2 ^ 64
  pub block : r.block < 2 ^ 32
  pub place : r.place < 2 ^ 32
  pub cell : r.cell < 2 ^ 64

-- a second row stands only behind a first
abbrev pub IsInOrder : Delta → Type 0
IsInOrder d = is_some d.second ≡ true → is_some d.first ≡ true

-- which deltas have a spelling
pub record DeltaFits (d : Delta) : Type 0 where
  pub serial : d.serial < 2 ^ 64
  pub next_cell : d.next_cell < 2 ^ 64
  pub rows : AllFit RowFits (rows_of d)
  pub in_order : IsInOrder d

-- what stands in the fields of bytes
abbrev pub row_fields : ℕ → List ℕ → DeltaRow
row_fields at bytes = record { fs = number_at 8 at bytes; block = number_at 4 (at + 8) bytes; place = number_at 4 (at + 12) bytes; cell = number_at 8 (at + 16) bytes }

abbrev pub row_if : Bool → ℕ → List ℕ → Option DeltaRow
row_if false at bytes = None
row_if true at bytes = Some (row_fields at bytes)

abbrev pub count_in : List ℕ → ℕ
count_in bytes = number_at 2 16 bytes

abbrev pub delta_fields : List ℕ → Delta
delta_fields bytes = record {
  serial = number_at 8 0 bytes;
  next_cell = number_at 8 8 bytes;
  first = row_if (nat_le 1 (count_in bytes)) 24 bytes;
  second = row_if (nat_le 2 (count_in bytes)) 48 bytes;
}

-- the delta whose spelling the bytes are, if there is one
unfoldable pub delta_of : List ℕ → Option Delta
delta_of bytes = if bytes_eq bytes (delta_text (delta_fields bytes)) then Some (delta_fields bytes) else None
