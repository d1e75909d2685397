-- Which flex records there are, and which of them a commit of a generation can have made.
use Rattle.std.specs.Prelude.{◌≡◌, ℕ, ◌*◌, Bool, true, ◌&&◌, nat_le, length, if◌then◌else◌}
use Rattle.st_limits.specs.declared.TheConstants.{MAX_FILESYSTEMS, MAX_FILESYSTEMS_V1, MAX_MAPPINGS}
use Rattle.st_flexrec.specs.declared.record.FlexRec.{FlexRec}
use Rattle.st_flexrec.specs.Filesystems.{FilesystemsFit}
use Rattle.st_flexrec.specs.Merges.{marks_fit}
use Rattle.st_flexrec.specs.Mappings.{MappingsFit}
use Rattle.st_flexrec.specs.Cells.{CellsFit}
use Rattle.st_flexrec.specs.Record.{RecFits}

-- the most filesystems of a pool, and the most serials of them that a commit takes
abbrev pub most_filesystems : Bool → ℕ
most_filesystems version2 = if version2 then MAX_FILESYSTEMS else MAX_FILESYSTEMS_V1

-- at most so many filesystems, mappings and cells; of cells no more than mappings can name
abbrev pub has_few_rows : FlexRec → Bool
has_few_rows rec = nat_le (length rec.filesystems) (most_filesystems rec.version2) && (nat_le (length rec.mappings) MAX_MAPPINGS && nat_le (length rec.cells) MAX_MAPPINGS)

-- the next serial and the next cell are numbers from 1
abbrev pub counts_from_one : FlexRec → Bool
counts_from_one rec = nat_le 1 rec.next_fs && nat_le 1 rec.next_cell

-- the conditions on a flex record, whatever the generation
pub record KeepsConditions (rec : FlexRec) : Type 0 where
  pub few_rows : has_few_rows rec ≡ true
  pub from_one : counts_from_one rec ≡ true
  pub filesystems : FilesystemsFit rec.next_fs rec.filesystems
  pub marks : marks_fit rec.version2 rec.filesystems ≡ true
  pub mappings : MappingsFit rec.filesystems (length rec.cells) rec.mappings
  pub cells : CellsFit rec.next_cell rec.mappings rec.cells

-- each commit takes at most 2 cell numbers, and serials for as many filesystems as a pool may have
abbrev pub is_within : ℕ → FlexRec → Bool
is_within generation rec = nat_le rec.next_cell (2 * generation) && nat_le rec.next_fs (most_filesystems rec.version2 * generation)

-- the flex records of a generation
pub record IsFlexRec (generation : ℕ) (rec : FlexRec) : Type 0 where
  pub fits : RecFits rec
  pub kept : KeepsConditions rec
  pub within : is_within generation rec ≡ true
