-- The rows of mappings and cells, and how each is spelled.
use Rattle.std.specs.Prelude.{ℕ, ◌<◌, ◌^◌, List, ◌++◌}
use Rattle.st_fields.specs.Fields.{number_at, spelling}
use Rattle.st_flexrec.specs.declared.rows.MapRow.{MapRow}
use Rattle.st_flexrec.specs.declared.rows.CellRow.{CellRow}

-- a mapping: the number of the filesystem's row, 2 zero bytes, the block, the number of the cell's row
abbrev pub map_text : MapRow → List ℕ
map_text m = spelling 2 m.fs ++ (spelling 2 0 ++ (spelling 4 m.block ++ spelling 4 m.cell))

-- what a mapping's row can hold
pub record MapFits (m : MapRow) : Type 0 where
  pub fs : m.fs < 2 ^ 16
  pub block : m.block < 2 ^ 32
  pub cell : m.cell < 2 ^ 32

abbrev pub map_fields : List ℕ → MapRow
map_fields bytes = record { fs = number_at 2 0 bytes; block = number_at 4 4 bytes; cell = number_at 4 8 bytes }

-- a cell: its number, its place
abbrev pub cell_text : CellRow → List ℕ
cell_text c = spelling 8 c.cell ++ spelling 4 c.place

-- what a cell's row can hold
pub record CellFits (c : CellRow) : Type 0 where
  pub cell : c.cell < 2 ^ 64
  pub place : c.place < 2 ^ 32

abbrev pub cell_fields : List ℕ → CellRow
cell_fields bytes = record { cell = number_at 8 0 bytes; place = number_at 4 8 bytes }
