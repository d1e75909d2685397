-- The head of a flex record, and how it is spelled.
use Rattle.std.specs.Prelude.{ℕ, ◌<◌, ◌^◌, ◌==◌, Bool, List, ◌++◌, if◌then◌else◌}
use Rattle.st_fields.specs.Fields.{number_at, spelling}
use Rattle.st_flexrec.specs.declared.head.FlexHead.{FlexHead}

abbrev pub version_number : Bool → ℕ
version_number version2 = if version2 then 2 else 0

-- the pool's serial, the next filesystem's serial, the next cell, how many filesystems, the version,
-- how many mappings, how many cells
abbrev pub head_text : FlexHead → List ℕ
head_text h =
    spelling 8 h.serial ++ (spelling 8 h.next_fs ++ (spelling 8 h.next_cell ++ (spelling 2 h.filesystems ++ (spelling 2 (version_number h.version2) ++ (spelling 4 h.mappings ++ spelling 4 h.cells)))))

-- what a head can hold
pub record HeadFits (h : FlexHead) : Type 0 where
  pub serial : h.serial < 2 ^ 64
  pub next_fs : h.next_fs < 2 ^ 64
  pub next_cell : h.next_cell < 2 ^ 64
  pub filesystems : h.filesystems < 2 ^ 16
  pub mappings : h.mappings < 2 ^ 32
  pub cells : h.cells < 2 ^ 32

abbrev pub head_fields : List ℕ → FlexHead
head_fields bytes = record {
  serial = number_at 8 0 bytes;
  next_fs = number_at 8 8 bytes;
  next_cell = number_at 8 16 bytes;
  filesystems = number_at 2 24 bytes;
  version2 = number_at 2 26 bytes == 2;
  mappings = number_at 4 28 bytes;
  cells = number_at 4 32 bytes;
}
