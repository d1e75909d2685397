-- What a rack is between two commits.
use Rattle.std.specs.Prelude.{◌≡◌, ◌⊎◌, ℕ, ◌+◌, ◌*◌, ◌%◌, ◌^◌, ◌<◌, ◌≤◌, false, nat_eq, List, length, Option, Some, None, slice_get, if◌then◌else◌}
use Rattle.st_fields.specs.Slot.{Found}
use Rattle.st_rack.specs.Story.{Content, Meant, Grows}
use Rattle.st_rack.specs.Device.{Path, DevState, State, Image, Settling, pending}
use Rattle.st_rack.specs.Readers.{AllMeant, SureIn}
use Rattle.st_slots.specs.Places.{slot_at}
use Rattle.st_slots.specs.Reading.{read_slot}
use Rattle.st_slots.specs.declared.spot.Area.{Area}
use Rattle.st_deltalog.specs.declared.area.FlexArea.{FlexArea}
use Rattle.st_deltalog.specs.Log.{Log, serial_in}
use Rattle.st_deltalog.specs.Bearing.{Rests}
use Rattle.st_commit.specs.Standing.{keep, slots_in, LeftNow}

-- a device of the list
pub record IsOf (devs : List Path) (d : Path) : Type 0 where
  pub index : ℕ
  pub is : slice_get devs index ≡ Some d

-- a slot of the serial has a generation up to g, and the body that the history gives to it; at g = 0 there is no slot of the serial
abbrev pub Ranked : ℕ → (ℕ → List ℕ) → ℕ → Found → Type 0
Ranked p h g o = (x : ℕ × List ℕ) → keep p o ≡ Some x → (x.0 ≤ g) × (h x.0 ≡ x.1)

-- all that was meant for a slot of these devices reads so
abbrev pub AllSlots : Area → List Path → (Found → Type 0) → State → Type 0
AllSlots pool devs P s = (d : Path) → IsOf devs d → (r : ℕ) → r < 2 → AllMeant (read_slot pool r) P (s d)

-- what they hold reads so
abbrev pub HeldSlots : Area → List Path → (Found → Type 0) → State → Type 0
HeldSlots pool devs P s = (d : Path) → IsOf devs d → (r : ℕ) → r < 2 → P (read_slot pool r (s d).holds)

-- the device holds the record of a generation, and is sure of it
pub record BearsRecord (pool : Area) (g : ℕ) (rec : List ℕ) (s : DevState) : Type 0 where
  pub sure : SureIn (slot_at pool g) (512 * pool.slot) s
  pub reads : read_slot pool (g % 2) s.holds ≡ Some (g, rec)

-- The device bears the record of generation g and its log; where no commit was made yet, g is 0.
abbrev pub Based : Area → FlexArea → ℕ → ℕ → ℕ → List ℕ → Option Log → DevState → Type 0
Based pool flex p up g rec None s = g ≡ 0
Based pool flex p up g rec (Some log) s = BearsRecord pool g rec s × Rests flex p up g log s × (serial_in rec ≡ p)

-- The first device bears generation g, and all slots are of one history up to g.
pub record Ready (pool : Area) (flex : FlexArea) (p up : ℕ) (h : ℕ → List ℕ) (devs : List Path) (first : Path) (g : ℕ) (old : Option Log) (s : State) : Type 0 where
  pub slots : AllSlots pool devs (Ranked p h g) s
  pub held : HeldSlots pool devs (Ranked p h g) s
  pub base : Based pool flex p up g (h g) old (s first)

-- the history with one generation more
abbrev pub next : ℕ → List ℕ → (ℕ → List ℕ) → ℕ → List ℕ
next g rec h k = if nat_eq k g then rec else h k

-- two areas have no byte in common
abbrev pub AreApart : Area → Area → Type 0
AreApart a b = (a.at + 2 * a.slot ≤ b.at) ⊎ (b.at + 2 * b.slot ≤ a.at)

abbrev pub AreDistinct : List Path → Type 0
AreDistinct devs = (i j : ℕ) (d : Path) → slice_get devs i ≡ Some d → slice_get devs j ≡ Some d → i ≡ j

-- the area's numbers are those of an area on a device
pub record IsSound (flex : FlexArea) : Type 0 where
  pub eight : length flex.area.magic ≡ 8
  pub small : flex.area.slot ≤ 2 ^ 32

-- What a commit of this generation goes on from: the log of the generation stands already.
pub record Before (pool : Area) (flex : FlexArea) (p up : ℕ) (h : ℕ → List ℕ) (devs : List Path) (first : Path) (g : ℕ) (old : Option Log) (generation : ℕ) (rec : List ℕ) (log : Log) (s : State) : Type 0 where
  pub step : generation ≡ g + 1
  pub head : slice_get devs 0 ≡ Some first
  pub same : serial_in rec ≡ p
  pub ready : Ready pool flex p g h devs first g old s
  pub log_stands : Rests flex p up generation log (s first)

-- a byte that isn't in the slot of a generation
abbrev pub Outside : Area → ℕ → ℕ → Type 0
Outside area g i = (i < slot_at area g) ⊎ (slot_at area g + 512 * area.slot ≤ i)

-- Outside some bytes a device is untouched: what it holds there stays, and what was sure stays so. Its story only grows.
pub record Untouched (outside : ℕ → Type 0) (a s : DevState) : Type 0 where
  pub grows : Grows a.story s.story
  pub same : (i : ℕ) → outside i → s.holds i ≡ a.holds i
  pub sure : (i : ℕ) → outside i → pending a i ≡ false → pending s i ≡ false

-- Nothing but the slots of a generation on the devices of the list is touched.
abbrev pub Spares : Area → ℕ → List Path → State → State → Type 0
Spares pool g devs a s = (d : Path) → Untouched (Outside pool g) (a d) (s d) × ((IsOf devs d → ⊥) → s d ≡ a d)

-- a byte that is in neither slot of an area
abbrev pub OutsideOf : Area → ℕ → Type 0
OutsideOf area i = (i < 512 * area.at) ⊎ (512 * (area.at + 2 * area.slot) ≤ i)

-- Nothing but a pool's slots is touched: those for records of a generation on the devices of the list, and those for checkpoints and
-- deltas on the first.
abbrev pub Moves : Area → FlexArea → ℕ → List Path → State → State → Type 0
Moves pool flex g devs a s = (d : Path) → Untouched (λ i. Outside pool g i × (slice_get devs 0 ≡ Some d → OutsideOf flex.area i)) (a d) (s d) × ((IsOf devs d → ⊥) → s d ≡ a d)

-- each device is what it was, or that and settled
abbrev pub Settles : State → State → Type 0
Settles a s = (d : Path) → Settling (a d) (s d)

-- It was meant for a slot of the device, or stood there.
pub record WasThere (pool : Area) (r : ℕ) (s : DevState) (x : ℕ × List ℕ) : Type 0 where
  pub content : Content
  pub known : Meant s.story content ⊎ (content ≡ s.holds)
  pub reads : read_slot pool r content ≡ Some x

-- Whatever a slot reads as, this is the record, or it was there at the start.
abbrev pub Known : Area → ℕ → List ℕ → ℕ → DevState → Found → Type 0
Known pool g rec r start o = (x : ℕ × List ℕ) → o ≡ Some x → (x ≡ (g, rec)) ⊎ WasThere pool r start x

-- No other record appears in a slot of the devices, whatever a crash leaves.
abbrev pub NoOther : Area → List Path → ℕ → List ℕ → State → State → Type 0
NoOther pool devs g rec start s = (c : Image) → LeftNow devs (λ k. slots_in pool) s c → (d : Path) → IsOf devs d → (r : ℕ) → r < 2 → Known pool g rec r (start d) (read_slot pool r (c d))
