-- Where the devices of a pool are looked at, and as what: the readers of all sealed texts.
use Rattle.std.specs.Prelude.{ℕ, zero, suc, ◌+◌, ◌*◌, Bool, true, false, ◌&&◌, ◌||◌, nat_lt, nat_eq, [], ◌∷◌, Option, Some, None, if◌then◌else◌}
use Rattle.st_limits.specs.declared.TheConstants.{SECTOR_BYTES, BLOCK_SECTORS, RESERVED_SECTORS, FLEX_BLOCKS, MIN_DEVICE_SECTORS}
use Rattle.st_fields.specs.Slot.{Found}
use Rattle.st_header.specs.Header.{copy_of, header_of}
use Rattle.st_rack.specs.Story.{Content}
use Rattle.st_rack.specs.Device.{cells}
use Rattle.st_slots.specs.Reading.{read_slot}
use Rattle.st_slots.specs.declared.spot.Area.{Area}
use Rattle.st_deltalog.specs.declared.area.FlexArea.{FlexArea}
use Rattle.st_deltalog.specs.Log.{checkpoint_in}

-- the slots of pool records: `STRSPOL1`
abbrev pub pool_area : Area
pool_area = record { at = 16; slot = 64; magic = 83 ∷ 84 ∷ 82 ∷ 83 ∷ 80 ∷ 79 ∷ 76 ∷ 49 ∷ [] }

-- the slots of the log: `STRSFLX1` for a checkpoint, `STRSDLT1` for a delta
abbrev pub flex_area : FlexArea
flex_area = record {
  area = record { at = 256; slot = 1664; magic = 83 ∷ 84 ∷ 82 ∷ 83 ∷ 70 ∷ 76 ∷ 88 ∷ 49 ∷ [] };
  delta = 83 ∷ 84 ∷ 82 ∷ 83 ∷ 68 ∷ 76 ∷ 84 ∷ 49 ∷ [];
}

-- The slot for pool records in a place; the copy of the header at a sector, on a device of so many sectors; the checkpoint in a slot of the log.
pub data Look : Type 0 where
  PoolSlot : ℕ → Look
  Copy : ℕ → ℕ → Look
  Checkpoint : ℕ → Look

abbrev pub serial_found : Option ℕ → Found
serial_found None = None
serial_found (Some n) = Some (n, [])

abbrev pub looks : Look → Content → Found
looks (PoolSlot r) f = read_slot pool_area r f
looks (Copy sectors k) f = serial_found (copy_of sectors (cells f (512 * k) 512))
looks (Checkpoint r) f = checkpoint_in flex_area r f

-- what the slot for pool records in a place reads as, on a device of so many sectors; one that is too small for a pool isn't read
abbrev pub slot_on : ℕ → ℕ → Content → Found
slot_on sectors place f = if nat_lt sectors MIN_DEVICE_SECTORS then None else read_slot pool_area place f

-- the first device of a pool
abbrev pub is_first : ℕ → Bool
is_first zero = true
is_first (suc k) = false

-- What is looked at on a device: a log stands on the first alone, since on the others data stand in its place.
abbrev pub looked_at : Bool → Look → Bool
looked_at first (PoolSlot r) = nat_lt r 2
looked_at first (Copy sectors k) = nat_eq k 1 || nat_eq k 9
looked_at first (Checkpoint r) = first && nat_lt r 2

abbrev pub is_serial : ℕ → Option ℕ → Bool
is_serial p None = false
is_serial p (Some n) = nat_eq n p

-- the header of a device of so many sectors is for this pool
abbrev pub has_header : ℕ → ℕ → Content → Bool
has_header p sectors f = is_serial p (header_of sectors (cells f 0 8192))

-- What a pool sees there on a device of so many sectors. Where the header isn't the pool's it sees no checkpoint: there may have been
-- another pool's data, and whatever a user wrote then tells nothing of this pool's log.
abbrev pub seen : ℕ → ℕ → Look → Content → Found
seen p sectors (PoolSlot r) f = looks (PoolSlot r) f
seen p sectors (Copy n k) f = looks (Copy n k) f
seen p sectors (Checkpoint r) f = if has_header p sectors f then looks (Checkpoint r) f else None

-- the readers of a pool's devices, each device in the role that its place among them gives it; the first has so many sectors
abbrev pub look_of : ℕ → ℕ → ℕ → Look → Content → Found
look_of p sectors k l f = if looked_at (is_first k) l then seen p sectors l f else None

-- where the records of a device end, and its blocks for data begin
abbrev pub records_end : Bool → ℕ
records_end first = if first then SECTOR_BYTES * (RESERVED_SECTORS + FLEX_BLOCKS * BLOCK_SECTORS) else SECTOR_BYTES * RESERVED_SECTORS
