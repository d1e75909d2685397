-- A rack while the newest records of pools that are gone are written to the devices that lack them.
use Rattle.std.specs.Prelude.{◌≡◌, ◌⊎◌, ℕ, ◌%◌, ◌≤◌, List, true, Some}
use Rattle.st_poolrec.specs.declared.record.PoolRec.{PoolRec}
use Rattle.st_poolrec.specs.Record as pools
use Rattle.st_model.specs.declared.state.EngineState.{EngineState}
use Rattle.st_rack.specs.Story.{Content, Grows}
use Rattle.st_rack.specs.Device.{Path, State, Image, held}
use Rattle.st_rack.specs.Calls.{Devices, Has}
use Rattle.st_rack.specs.Left.{FairlyLeaves}
use Rattle.st_slots.specs.Reading.{read_slot}
use Rattle.st_slots.specs.Writing.{Torn}
use Rattle.st_commit.specs.Ready.{Outside}
use Rattle.st_fields.specs.Slot.{Found}
use Rattle.st_judge.specs.Verdicts.{lacks_record}
use Rattle.st_image.specs.Looks.{Look, look_of, pool_area}
use Rattle.st_image.specs.Bears.{Bears}
use Rattle.st_image.specs.Rack.{IsSerial, RackStands}
use Rattle.st_parting.specs.Found.{AllFinished, IsFoundOn}

-- Outside the slot of this generation a device holds what it held, and the slot reads as nothing, as before or as this record.
pub record IsBeingWritten (g : ℕ) (body : List ℕ) (a f : Content) : Type 0 where
  pub same : (i : ℕ) → Outside pool_area g i → f i ≡ a i
  pub torn : Torn (read_slot pool_area (g % 2) a) (Some (g, body)) (read_slot pool_area (g % 2) f)

-- The device lacks the newest record of a pool that is gone.
pub record Lacks (devs : Devices) (a : Image) (d : Path × ℕ) : Type 0 where
  pub q : ℕ
  pub g : ℕ
  pub rec : PoolRec
  pub serial : IsSerial q
  pub bears : Bears q devs g rec a
  pub gone : rec.gone ≡ true
  pub lacks : lacks_record q g rec a d ≡ true

-- Each device holds what it held, or lacks the newest record of a pool that is gone, and that is being written to it.
abbrev pub IsFinishing : Devices → Image → Image → Type 0
IsFinishing devs a c = (p : Path) (n : ℕ) → Has devs p n → (c p ≡ a p) ⊎ ((l : Lacks devs a (p, n)) × IsBeingWritten l.g (pools.record_text l.rec) (a p) (c p))

-- They are written on all that lacked them.
abbrev pub IsFinished : Devices → Image → Image → Type 0
IsFinished devs a c = (p : Path) (n : ℕ) → Has devs p n → (l : Lacks devs a (p, n)) → read_slot pool_area (l.g % 2) (c p) ≡ Some (l.g, pools.record_text l.rec)

-- the state with a next serial that may be lower
abbrev pub with_next : EngineState → ℕ → EngineState
with_next e n = record e { next = n }

-- The devices stand for this state, but for the next serial, which may be lower.
abbrev pub StandsStill : EngineState → Devices → Image → Type 0
StandsStill e devs c = (n : ℕ) × (n ≤ e.next) × RackStands devs c (with_next e n)

-- So they do as they read; nothing is pending, and nothing is left to be finished.
abbrev pub FoundStill : EngineState → Devices → State → Type 0
FoundStill e devs s = (n : ℕ) × (n ≤ e.next) × IsFoundOn devs s (with_next e n) × AllFinished devs (held s)

-- the readers of headers and of slots for records, on each device of a rack
abbrev pub heads : Look → Path → Content → Found
heads l p f = look_of 0 0 1 l f

-- whatever a crash now fairly leaves stands for the state still
abbrev pub LeavesStill : EngineState → Devices → State → Type 0
LeavesStill e devs s = (c : Image) → FairlyLeaves devs heads s c → StandsStill e devs c

-- what devices are told is only added to
abbrev pub StoriesGrow : State → State → Type 0
StoriesGrow a s = (d : Path) → Grows (a d).story (s d).story
