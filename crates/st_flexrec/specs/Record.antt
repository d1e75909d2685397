-- The flex record: its one spelling.
use Rattle.std.specs.Prelude.{ℕ, List, ◌++◌, length}
use Rattle.st_recrows.specs.Rows.{AllFit, rows_text}
use Rattle.st_recrows.specs.FsRows.{FsFits, fs_text}
use Rattle.st_flexrec.specs.declared.head.FlexHead.{FlexHead}
use Rattle.st_flexrec.specs.declared.record.FlexRec.{FlexRec}
use Rattle.st_flexrec.specs.Head.{HeadFits, head_text}
use Rattle.st_flexrec.specs.Rows.{MapFits, map_text, CellFits, cell_text}

abbrev pub head_of : FlexRec → FlexHead
head_of rec = record {
  serial = rec.serial;
  next_fs = rec.next_fs;
  next_cell = rec.next_cell;
  filesystems = length rec.filesystems;
  version2 = rec.version2;
  mappings = length rec.mappings;
  cells = length rec.cells;
}

abbrev pub fs_rows_text : FlexRec → List ℕ
fs_rows_text rec = rows_text fs_text rec.filesystems

abbrev pub map_rows_text : FlexRec → List ℕ
map_rows_text rec = rows_text map_text rec.mappings

abbrev pub cell_rows_text : FlexRec → List ℕ
cell_rows_text rec = rows_text cell_text rec.cells

-- the head, the rows of the filesystems, of the mappings and of the cells
abbrev pub record_text : FlexRec → List ℕ
record_text rec = head_text (head_of rec) ++ (fs_rows_text rec ++ (map_rows_text rec ++ cell_rows_text rec))

-- what every value of the type is, once its rows can be counted: numbers within their fields, and names
pub record RecFits (rec : FlexRec) : Type 0 where
  pub head : HeadFits (head_of rec)
  pub filesystems : AllFit FsFits rec.filesystems
  pub mappings : AllFit MapFits rec.mappings
  pub cells : AllFit CellFits rec.cells
