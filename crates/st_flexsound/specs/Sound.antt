-- What holds of all that a log says.
use Rattle.std.specs.Prelude.{◌≡◌, ℕ, ◌+◌, ◌*◌, ◌/◌, ◌<◌, ◌≤◌, ◌==◌, ◌&&◌, true, nat_lt, List, length}
use Rattle.std.specs.List.{AllByRecursion, list_any}
use Rattle.st_limits.specs.declared.TheConstants.{BLOCK_SECTORS, MAX_FILESYSTEMS, MAX_MAPPINGS}
use Rattle.st_units.specs.declared.rows.FsRow.{FsRow}
use Rattle.st_flexrec.specs.Filesystems.{FilesystemsFit}
use Rattle.st_flexrec.specs.Merges.{marks_fit}
use Rattle.st_flexlog.specs.declared.state.FlexState.{FlexState}
use Rattle.st_flexlog.specs.declared.state.Mapping.{Mapping}
use Rattle.st_flexlog.specs.Applied.{stands_before}
use Rattle.st_flexlog.specs.Said.{Says}
use Rattle.st_model.specs.ValidPool.{EachPair}

-- a block of a filesystem that is there, and a cell that was given out
pub record IsMappingOf (filesystems : List FsRow) (next_cell : ℕ) (m : Mapping) : Type 0 where
  pub block : list_any (λ (fs : FsRow). (m.fs == fs.serial) && nat_lt m.block (fs.size / BLOCK_SECTORS)) filesystems ≡ true
  pub cell_from : 1 ≤ m.cell
  pub cell_until : m.cell < next_cell

-- of two mappings with one place the cell is one
abbrev pub HaveOwnPlace : Mapping → Mapping → Type 0
HaveOwnPlace m n = m.place ≡ n.place → m.cell ≡ n.cell

-- The state of a pool at this generation.
pub record IsSound (g : ℕ) (st : FlexState) : Type 0 where
  pub filesystems : FilesystemsFit st.next_fs st.filesystems
  pub marks : marks_fit st.version2 st.filesystems ≡ true
  pub few_filesystems : length st.filesystems ≤ MAX_FILESYSTEMS
  pub few_mappings : length st.mappings ≤ MAX_MAPPINGS
  -- in order of filesystem and block, each block once
  pub sorted : EachPair (λ (m later : Mapping). stands_before m later ≡ true) st.mappings
  pub each : AllByRecursion (IsMappingOf st.filesystems st.next_cell) st.mappings
  pub places : AllByRecursion (λ (m : Mapping). AllByRecursion (HaveOwnPlace m) st.mappings) st.mappings
  pub fs_from : 1 ≤ st.next_fs
  pub fs_until : st.next_fs ≤ MAX_FILESYSTEMS * g
  pub cell_from : 1 ≤ st.next_cell
  pub cell_until : st.next_cell ≤ 2 * g

abbrev pub SaysSound : Type 0
SaysSound = (c : ℕ) (body : List ℕ) (deltas : List (List ℕ)) (st : FlexState) → Says c body deltas st → IsSound (c + length deltas) st
