-- What the writes of the records of pools that are gone do to devices.
use Rattle.std.specs.Prelude.{◌≡◌, ◌⊎◌, ℕ, ◌%◌, List, Some, slice_get}
use Rattle.st_rack.specs.Story.{Content, Grows}
use Rattle.st_rack.specs.Device.{Path, DevState, State}
use Rattle.st_slots.specs.Reading.{read_slot}
use Rattle.st_slots.specs.Writing.{LeavesFor}
use Rattle.st_deltalog.specs.Bearing.{IsSettled}
use Rattle.st_commit.specs.Ready.{IsOf, Outside}
use Rattle.st_judge.specs.declared.rows.GoneRow.{GoneRow}
use Rattle.st_image.specs.Looks.{pool_area}
use Rattle.st_finishing.specs.Finishing.{IsBeingWritten}

-- The device's story goes on, and where it was settled, whatever a crash fairly leaves of its slot is a write of this record.
pub record LeavesWrite (g : ℕ) (body : List ℕ) (a s : DevState) : Type 0 where
  pub grows : Grows a.story s.story
  pub left : IsSettled a → (f : Content) → LeavesFor (read_slot pool_area (g % 2)) s f → IsBeingWritten g body a.holds f

-- The record was written, and nothing else.
pub record IsWritten (g : ℕ) (body : List ℕ) (a s : DevState) : Type 0 where
  pub settled : IsSettled s
  pub reads : read_slot pool_area (g % 2) s.holds ≡ Some (g, body)
  pub same : (i : ℕ) → Outside pool_area g i → s.holds i ≡ a.holds i

-- Each device is what it was, or one of the list on which the record is being written.
abbrev pub WritesOn : ℕ → List ℕ → List Path → State → State → Type 0
WritesOn g body list a s = (d : Path) → (s d ≡ a d) ⊎ (IsOf list d × LeavesWrite g body (a d) (s d))

-- one of the rows names the device
pub record IsIn (rows : List GoneRow) (d : Path) : Type 0 where
  pub index : ℕ
  pub row : GoneRow
  pub of : slice_get rows index ≡ Some row
  pub on : IsOf row.devs d

-- Each device is what it was, or one that a row names, on which its record is being written.
abbrev pub WritesRows : List GoneRow → State → State → Type 0
WritesRows rows a s = (d : Path) → (s d ≡ a d) ⊎ ((r : IsIn rows d) × LeavesWrite r.row.generation r.row.rec (a d) (s d))
