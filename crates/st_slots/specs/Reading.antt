-- What the slots of a device read as.
use Rattle.std.specs.Prelude.{◌≡◌, ◌≢◌, ℕ, ◌+◌, ◌*◌, ◌%◌, ◌^◌, ◌<◌, ◌≤◌, Bool, nat_lt, nat_eq, List, ◌++◌, take, drop, Option, Some, None, if◌then◌else◌}
use Rattle.std.specs.Str.{bytes_eq}
use Rattle.st_fields.specs.Fields.{digest}
use Rattle.st_fields.specs.Slot.{Found, slot_fields, sealed_of}
use Rattle.st_rack.specs.Story.{Content}
use Rattle.st_rack.specs.Device.{Path, State, cells}
use Rattle.st_units.specs.Causes.{Rose}
use Rattle.st_rack.specs.Calls.{Devices}
use Rattle.st_slots.specs.Places.{place_at}
use Rattle.st_slots.specs.declared.spot.Area.{Area}
use Rattle.st_slots.specs.declared.head.Head.{Head}

-- all bytes of the slot in a place
abbrev pub bytes_at : Area → ℕ → Content → List ℕ
bytes_at area place device = cells device (place_at area place) (512 * area.slot)

-- what the slot in a place reads as, whatever its generation
abbrev pub read_any : Area → ℕ → Content → Found
read_any area place device = sealed_of area.magic (bytes_at area place device)

-- what was found, if this is the place of its generation
abbrev pub of_place : ℕ → Found → Found
of_place place None = None
of_place place (Some x) = if nat_eq (x.0 % 2) place then Some x else None

-- what the slot in a place reads as, where generation g stands in place g mod 2
abbrev pub read_slot : Area → ℕ → Content → Found
read_slot area place device = of_place place (read_any area place device)

-- the one of greater generation
abbrev pub newer : Found → Found → Found
newer None b = b
newer (Some a) None = Some a
newer (Some a) (Some b) = if nat_lt a.0 b.0 then Some b else Some a

-- the valid slot of greatest generation
abbrev pub newest_in : Area → Content → Found
newest_in area device = newer (read_slot area 0 device) (read_slot area 1 device)

-- A slot whose first bytes these are has a head for this generation and a body of so many bytes, sound but for its seal, and the
-- body fits the slot.
pub record IsHead (area : Area) (first : List ℕ) (generation count : ℕ) : Type 0 where
  pub from : 1 ≤ generation
  pub until : generation ≤ 2 ^ 48
  pub fits : 64 + count ≤ 512 * area.slot
  pub spelled : take 32 first ≡ slot_fields area.magic generation count

-- the seal is that of the fields and of a body of so many bytes
abbrev pub has_seal : List ℕ → ℕ → Bool
has_seal bytes count = bytes_eq (take 32 (drop 32 bytes)) (digest (take 32 bytes ++ take count (drop 64 bytes)))

-- what a sound head and a body of so many bytes hold, where the seal is right
abbrev pub sealed_in : List ℕ → ℕ → ℕ → Found
sealed_in bytes generation count = if has_seal bytes count then Some (generation, take count (drop 64 bytes)) else None

-- what a head found in the bytes of a text says
abbrev pub found_in : List ℕ → Option Head → Found
found_in bytes None = None
found_in bytes (Some head) = Some (head.generation, take head.count (drop 64 bytes))

-- A device of a rack was read, once at least, and nothing else.
pub record IsRead {D : Type 0} (devs : D → Devices) (moment : D → ℕ) (state_at : D → ℕ → State) (spare : D → ℕ) (reads : D → Path → ℕ) (dev : Path) (old new : D) : Type 0 where
  pub devices : devs new ≡ devs old
  pub clock : moment new ≡ moment old
  pub states : state_at new ≡ state_at old
  pub spares : spare new ≡ spare old
  pub counted : Rose (reads old dev) (reads new dev)
  pub others : (p : Path) → p ≢ dev → reads new p ≡ reads old p

-- One of the two slots is valid and holds this record, and no valid slot has a greater generation.
pub record IsNewest (area : Area) (device : Content) (x : ℕ × List ℕ) : Type 0 where
  pub place : ℕ
  pub of_two : place < 2
  pub holds : read_slot area place device ≡ Some x
  pub greatest : (r : ℕ) (y : ℕ × List ℕ) → r < 2 → read_slot area r device ≡ Some y → y.0 ≤ x.0
