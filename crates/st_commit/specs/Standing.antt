-- What several devices say of a pool: its newest record, and the log of that generation on the first device.
use Rattle.std.specs.Prelude.{◌≡◌, ◌⊎◌, ℕ, ◌<◌, Bool, true, ◌&&◌, nat_eq, nat_lt, List, [], ◌∷◌, Option, Some, None, slice_get, if◌then◌else◌}
use Rattle.st_fields.specs.Slot.{Found}
use Rattle.st_rack.specs.Story.{Content, Meant, Fair}
use Rattle.st_rack.specs.Device.{Path, DevState, State, Image, Leaves}
use Rattle.st_slots.specs.Reading.{read_slot, newer}
use Rattle.st_slots.specs.declared.spot.Area.{Area}
use Rattle.st_deltalog.specs.declared.area.FlexArea.{FlexArea}
use Rattle.st_deltalog.specs.Log.{Log, serial_in, checkpoint_in, log_at}

-- what was found, if its body begins with this serial
abbrev pub keep : ℕ → Found → Found
keep p None = None
keep p (Some x) = if nat_eq (serial_in x.1) p then Some x else None

-- the newest record of a device
abbrev pub candidate : Area → ℕ → Content → Found
candidate pool p device = newer (keep p (read_slot pool 0 device)) (keep p (read_slot pool 1 device))

-- the newest of all of them, the first such
abbrev pub newest_over : Area → ℕ → List Path → Image → Found
newest_over pool p [] c = None
newest_over pool p (d ∷ ds) c = newer (candidate pool p (c d)) (newest_over pool p ds c)

-- a record with its generation, and the log of that generation
abbrev pub Standing : Type 0
Standing = Option ((ℕ × List ℕ) × Option Log)

abbrev pub with_log : FlexArea → ℕ → Content → Found → Standing
with_log flex p device None = None
with_log flex p device (Some x) = Some (x, log_at flex p x.0 device)

-- what the devices stand for
abbrev pub stands : Area → FlexArea → ℕ → List Path → Path → Image → Standing
stands pool flex p devs first c = with_log flex p (c first) (newest_over pool p devs c)

-- the two slots for records of a device, as readers
abbrev pub slots_in : Area → ℕ → Content → Found
slots_in pool r f = if nat_lt r 2 then read_slot pool r f else None

-- The sealed texts of a pool, each a reader in its role: the slots for records on each device of the list, and those for checkpoints on
-- its first alone. Data may stand there on the others.
abbrev pub records : Area → FlexArea → ℕ → Bool × ℕ → Content → Found
records pool flex place i f = if i.0 then slots_in pool i.1 f else if (nat_eq place 0 && nat_lt i.1 2) then checkpoint_in flex i.1 f else None

-- A crash now may leave this content of a device, and nothing of it that these readers find is torn: each finds nothing, or what it finds
-- in a content that was meant since the last one settled. Nothing is asked of the device's past.
pub record LeavesNow {I X : Type 0} (read : I → Content → Option X) (s : DevState) (f : Content) : Type 0 where
  pub left : Leaves s f
  pub fair : (r : I) → Fair (read r) s.story f

-- So it is of the devices of a list, each read in its role.
abbrev pub LeftNow : {I X : Type 0} → List Path → (ℕ → I → Content → Option X) → State → Image → Type 0
LeftNow devs read s c = (k : ℕ) (d : Path) → slice_get devs k ≡ Some d → LeavesNow (read k) (s d) (c d)

-- The same readers, where that of a checkpoint finds nothing on a device that the pool doesn't own: what another pool's users wrote there
-- is no checkpoint of this pool.
abbrev pub owned_records : Area → FlexArea → (Content → Bool) → ℕ → Bool × ℕ → Content → Found
owned_records pool flex owns place i f = if i.0 then slots_in pool i.1 f else if owns f then records pool flex place i f else None

-- The pool owns the device, whatever a crash leaves of it, and in all that was meant of it.
pub record Owned (owns : Content → Bool) (s : DevState) : Type 0 where
  pub left : (f : Content) → Leaves s f → owns f ≡ true
  pub meant : (m : Content) → Meant s.story m → owns m ≡ true

-- a generation with its record and its log, or no commit yet
abbrev pub standing_of : ℕ → List ℕ → Option Log → Standing
standing_of g rec None = None
standing_of g rec (Some log) = Some ((g, rec), Some log)

-- no two slots of the serial have one generation and different bodies
abbrev pub AreOne : Area → ℕ → List Path → Image → Type 0
AreOne pool p devs c = (j k : ℕ) (d e : Path) → slice_get devs j ≡ Some d → slice_get devs k ≡ Some e → (r q : ℕ) → r < 2 → q < 2
    → (x y : ℕ × List ℕ) → keep p (read_slot pool r (c d)) ≡ Some x → keep p (read_slot pool q (c e)) ≡ Some y → x.0 ≡ y.0 → x.1 ≡ y.1

-- Whatever a crash leaves now is of one history, and stands for the one or for the other.
abbrev pub OneOf : Area → FlexArea → ℕ → List Path → Path → Standing → Standing → State → Type 0
OneOf pool flex p devs first old new s = (c : Image) → LeftNow devs (records pool flex) s c → AreOne pool p devs c × ((stands pool flex p devs first c ≡ old) ⊎ (stands pool flex p devs first c ≡ new))

-- Whatever a crash leaves now is of one history, and stands for this.
abbrev pub Only : Area → FlexArea → ℕ → List Path → Path → Standing → State → Type 0
Only pool flex p devs first it s = (c : Image) → LeftNow devs (records pool flex) s c → AreOne pool p devs c × (stands pool flex p devs first c ≡ it)
