-- A record that stands on one device at least, while it is written to those that lack it.
use Rattle.std.specs.Prelude.{◌≡◌, ◌⊎◌, ℕ, ◌*◌, ◌%◌, List, Some}
use Rattle.st_fields.specs.Slot.{slot_bytes}
use Rattle.st_rack.specs.Device.{Path, State, Image}
use Rattle.st_rack.specs.Moments.{OnDevice}
use Rattle.st_rack.specs.Steps.{Rewritten}
use Rattle.st_rack.specs.Readers.{SureIn}
use Rattle.st_slots.specs.Places.{slot_at}
use Rattle.st_slots.specs.Reading.{read_any}
use Rattle.st_slots.specs.declared.spot.Area.{Area}
use Rattle.st_deltalog.specs.Log.{serial_in}
use Rattle.st_commit.specs.Standing.{AreOne, newest_over, slots_in, LeftNow}
use Rattle.st_commit.specs.Ready.{IsOf, Ranked, AllSlots, HeldSlots, BearsRecord}

-- A device bears the record, and all slots are of one history up to its generation.
pub record Newest (pool : Area) (p : ℕ) (h : ℕ → List ℕ) (devs : List Path) (bearer : Path) (g : ℕ) (rec : List ℕ) (s : State) : Type 0 where
  pub slots : AllSlots pool devs (Ranked p h g) s
  pub held : HeldSlots pool devs (Ranked p h g) s
  pub is : h g ≡ rec
  pub serial : serial_in rec ≡ p
  pub of : IsOf devs bearer
  pub bears : BearsRecord pool g rec (s bearer)

-- Whatever a crash leaves now is of one history, and this is its newest record.
abbrev pub NewestOnly : Area → ℕ → List Path → ℕ → List ℕ → State → Type 0
NewestOnly pool p devs g rec s = (c : Image) → LeftNow devs (λ k. slots_in pool) s c → AreOne pool p devs c × (newest_over pool p devs c ≡ Some (g, rec))

-- the record was written, or it stood there and nothing was done
abbrev pub Mended : Area → Path → ℕ → List ℕ → State → State → Type 0
Mended pool dev g rec a b = OnDevice dev (Rewritten (slot_at pool g) (slot_bytes pool.magic g rec)) a b ⊎ ((b ≡ a) × (read_any pool (g % 2) (a dev).holds ≡ Some (g, rec)))

-- each device is sure of its slot of this generation
abbrev pub AllSure : Area → List Path → ℕ → State → Type 0
AllSure pool devs g s = (d : Path) → IsOf devs d → SureIn (slot_at pool g) (512 * pool.slot) (s d)
