-- What the devices of a whole rack stand for: a state of the engine, or that they stand for none.
use Rattle.std.specs.Prelude.{◌≡◌, ◌⊎◌, ℕ, ◌+◌, ◌<◌, ◌≤◌, nat_le, max, List, [], ◌∷◌, length, map, Option, Some, None, unwrap_or, if◌then◌else◌}
use Rattle.std.specs.List.{AllByRecursion}
use Rattle.st_limits.specs.declared.TheConstants.{MAX_POOLS, MAX_POOL_SERIAL}
use Rattle.st_fields.specs.Slot.{Found}
use Rattle.st_header.specs.Header.{header_of}
use Rattle.st_model.specs.declared.state.EngineState.{EngineState}
use Rattle.st_model.specs.declared.state.PoolState.{PoolState}
use Rattle.st_model.specs.Found.{with_own_serial}
use Rattle.st_rack.specs.Story.{Content}
use Rattle.st_rack.specs.Device.{Image, cells}
use Rattle.st_rack.specs.Calls.{Devices}
use Rattle.st_deltalog.specs.Log.{serial_in}
use Rattle.st_image.specs.Looks.{slot_on}
use Rattle.st_image.specs.Stands.{StandsFor}
use Rattle.st_image.specs.Survivors.{row_of}

-- a serial that a pool can have
pub record IsSerial (p : ℕ) : Type 0 where
  pub from : 1 ≤ p
  pub until : p ≤ MAX_POOL_SERIAL

-- the serial at the beginning of a slot's body, 0 where there is none of a pool
abbrev pub slot_serial : Found → ℕ
slot_serial None = 0
slot_serial (Some x) = if nat_le (serial_in x.1) MAX_POOL_SERIAL then serial_in x.1 else 0

-- the greatest serial in the header and in the slots of a device of so many sectors
abbrev pub greatest_on : ℕ → Content → ℕ
greatest_on sectors f = max (unwrap_or (header_of sectors (cells f 0 8192)) 0) (max (slot_serial (slot_on sectors 0 f)) (slot_serial (slot_on sectors 1 f)))

abbrev pub greatest_over : Devices → Image → ℕ
greatest_over [] c = 0
greatest_over (d ∷ ds) c = max (greatest_on d.1 (c d.0)) (greatest_over ds c)

-- serials rise, and are serials of pools
abbrev pub SerialsRise : List PoolState → Type 0
SerialsRise [] = Unit {0}
SerialsRise (p ∷ ps) = IsSerial p.serial × AllByRecursion (λ (q : PoolState). p.serial < q.serial) ps × SerialsRise ps

-- no two pools have one name
abbrev pub NamesDiffer : List PoolState → Type 0
NamesDiffer [] = Unit {0}
NamesDiffer (p ∷ ps) = AllByRecursion (λ (q : PoolState). p.name ≡ q.name → ⊥) ps × NamesDiffer ps

-- The devices of a rack stand for this state: for each serial for the pool that it has, or for none.
pub record RackStands (devs : Devices) (c : Image) (s : EngineState) : Type 0 where
  pub each : (p : ℕ) → IsSerial p → StandsFor p devs c (with_own_serial p s)
  pub serials : SerialsRise s.pools
  pub names : NamesDiffer s.pools
  pub few : length s.pools ≤ MAX_POOLS
  pub devices : s.devices ≡ map row_of devs
  pub next : s.next ≡ greatest_over devs c + 1

-- a known pool of this serial
abbrev pub IsKnown : Devices → Image → ℕ → Type 0
IsKnown devs c p = (pool : PoolState) × StandsFor p devs c (Some pool)

-- a known pool of a lower serial has its name
abbrev pub NameTaken : Devices → Image → ℕ → Type 0
NameTaken devs c p = (pool : PoolState) × (q : ℕ) × (other : PoolState) × IsSerial q × (q < p) × StandsFor p devs c (Some pool) × StandsFor q devs c (Some other) × (other.name ≡ pool.name)

-- rising serials of known pools, all below this one
abbrev pub KnownBelow : Devices → Image → ℕ → List ℕ → Type 0
KnownBelow devs c p [] = Unit {0}
KnownBelow devs c p (q ∷ qs) = IsSerial q × (q < p) × IsKnown devs c q × AllByRecursion (λ r. q < r) qs × KnownBelow devs c p qs

-- as many known pools as there may be have lower serials
abbrev pub TooMany : Devices → Image → ℕ → Type 0
TooMany devs c p = IsKnown devs c p × ((qs : List ℕ) × (length qs ≡ MAX_POOLS) × KnownBelow devs c p qs)

-- The serial breaks a rule: its devices stand neither for a pool nor for none, or its pool can't be beside those of lower serials.
abbrev pub Breaks : Devices → Image → ℕ → Type 0
Breaks devs c p = ((found : Option PoolState) → StandsFor p devs c found → ⊥) ⊎ (NameTaken devs c p ⊎ TooMany devs c p)

-- The devices stand for no state, and this is the least serial that breaks a rule.
pub record IsForeign (devs : Devices) (c : Image) (p : ℕ) : Type 0 where
  pub serial : IsSerial p
  pub breaks : Breaks devs c p
  pub least : (q : ℕ) → IsSerial q → q < p → Breaks devs c q → ⊥
