-- What a flex record says, without row numbers.
use Rattle.std.specs.Prelude.{ℕ, List, map, Option, Some, None, slice_get}
use Rattle.st_units.specs.declared.rows.FsRow.{FsRow}
use Rattle.st_flexrec.specs.declared.record.FlexRec.{FlexRec}
use Rattle.st_flexrec.specs.declared.rows.MapRow.{MapRow}
use Rattle.st_flexrec.specs.declared.rows.CellRow.{CellRow}
use Rattle.st_flexlog.specs.declared.state.FlexState.{FlexState}
use Rattle.st_flexlog.specs.declared.state.Mapping.{Mapping}

-- the serial of a filesystem's row; a record has the rows that its mappings name
abbrev pub serial_at : Option FsRow → ℕ
serial_at None = 0
serial_at (Some r) = r.serial

abbrev pub with_cell : ℕ → ℕ → Option CellRow → Mapping
with_cell fs block None = record { fs = fs; block = block; cell = 0; place = 0 }
with_cell fs block (Some c) = record { fs = fs; block = block; cell = c.cell; place = c.place }

-- a mapping with the serial, the cell and the place that stand in the rows that it names
abbrev pub mapping_of : List FsRow → List CellRow → MapRow → Mapping
mapping_of filesystems cells m = with_cell (serial_at (slice_get filesystems m.fs)) m.block (slice_get cells m.cell)

abbrev pub state_of : FlexRec → FlexState
state_of rec = record {
  version2 = rec.version2;
  serial = rec.serial;
  next_fs = rec.next_fs;
  next_cell = rec.next_cell;
  filesystems = rec.filesystems;
  mappings = map (mapping_of rec.filesystems rec.cells) rec.mappings;
}
