-- A device that bears a log, and is sure of it.
use Rattle.std.specs.Prelude.{◌≡◌, ℕ, ◌+◌, ◌-◌, ◌*◌, ◌<◌, ◌≤◌, false, List, length, Some}
use Rattle.st_fields.specs.Slot.{Found}
use Rattle.st_rack.specs.Story.{Content, Meant}
use Rattle.st_rack.specs.Device.{DevState, pending}
use Rattle.st_rack.specs.Readers.{AllMeant, SureIn}
use Rattle.st_slots.specs.Places.{place_at}
use Rattle.st_deltalog.specs.declared.area.FlexArea.{FlexArea}
use Rattle.st_deltalog.specs.Log.{Log, serial_in, sectors_of, next_of, checkpoint_in, deltas_in}

-- the other slot
abbrev pub other : ℕ → ℕ
other slot = 1 - slot

-- For no generation up to `up` what was found in the other slot is taken in place of a checkpoint of generation c in this slot.
abbrev pub Loses : ℕ → ℕ → ℕ → ℕ → Found → Type 0
Loses p up slot c o = (x : ℕ × List ℕ) → o ≡ Some x → serial_in x.1 ≡ p → x.0 ≤ up → x.0 < c + slot

-- A content holds the checkpoint of a log of generation g in its slot, and the deltas behind it.
pub record Holds (flex : FlexArea) (p g : ℕ) (log : Log) (f : Content) : Type 0 where
  pub of_two : log.slot < 2
  pub serial : serial_in log.body ≡ p
  pub counted : g ≡ log.start + length log.deltas
  pub checkpoint : checkpoint_in flex log.slot f ≡ Some (log.start, log.body)
  pub deltas : deltas_in flex log.slot (sectors_of log.body) log.start (length log.deltas) f ≡ Some log.deltas

-- The device holds a log and is sure of it, and for no generation up to `up` anything that was meant for the other slot is taken in
-- its place. So no crash takes it away.
pub record Bears (flex : FlexArea) (p up g : ℕ) (log : Log) (s : DevState) : Type 0 where
  pub holds : Holds flex p g log s.holds
  pub sure : SureIn (place_at flex.area log.slot) (512 * next_of log) s
  pub upto : g ≤ up
  pub beside : AllMeant (checkpoint_in flex (other log.slot)) (Loses p up log.slot log.start) s

-- So it is between two calls: what the other slot holds isn't taken either.
pub record Rests (flex : FlexArea) (p up g : ℕ) (log : Log) (s : DevState) : Type 0 where
  pub bears : Bears flex p up g log s
  pub held : Loses p up log.slot log.start (checkpoint_in flex (other log.slot) s.holds)

-- the place behind a log
pub record IsTail (slot next : ℕ) (log : Log) : Type 0 where
  pub in_slot : log.slot ≡ slot
  pub behind : next_of log ≡ next

-- all that was meant of a device is what it holds, and it is sure of it
pub record IsSettled (s : DevState) : Type 0 where
  pub meant : (m : Content) → Meant s.story m → m ≡ s.holds
  pub sure : (i : ℕ) → pending s i ≡ false
