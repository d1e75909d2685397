-- What cleared devices stand for, and what devices stand for while they are cleared.
use Rattle.std.specs.Prelude.{◌≡◌, ℕ, ◌<◌, false, Option, Some, None, slice_get}
use Rattle.st_model.specs.declared.state.PoolState.{PoolState}
use Rattle.st_slots.specs.Reading.{read_slot}
use Rattle.st_rack.specs.Device.{Path, DevState, State, Image, held}
use Rattle.st_rack.specs.Calls.{Devices}
use Rattle.st_deltalog.specs.Bearing.{IsSettled}
use Rattle.st_image.specs.Looks.{has_header, pool_area}
use Rattle.st_image.specs.Bears.{newest_on, newest_over, paths}
use Rattle.st_image.specs.Calm.{ForNoOther}
use Rattle.st_image.specs.Left.{LeftOf}
use Rattle.st_image.specs.Stands.{StandsFor}
use Rattle.st_clearing.specs.Clearing.{AllClearing, Cleared, places}

-- nothing is pending, there is no header and no valid slot, and read alone the device stands for no pool
pub record IsEmpty (s : DevState) : Type 0 where
  pub settled : IsSettled s
  pub no_header : (p sectors : ℕ) → has_header p sectors s.holds ≡ false
  pub no_slot : (r : ℕ) → r < 2 → read_slot pool_area r s.holds ≡ None
  pub alone : (p sectors : ℕ) → newest_on p sectors s.holds ≡ None

abbrev pub ClearedAreEmpty : Type 0
ClearedAreEmpty = (a s : DevState) → Cleared places a s → IsEmpty s

-- What the start holds could be left by a crash then; what it stands for the image stands for too, and where no device of it by itself stands
-- for another pool, none of the image does.
pub record IsAlike (p : ℕ) (devs : Devices) (start : State) (c : Image) : Type 0 where
  pub left : LeftOf p devs start (held start)
  pub same : (found : Option PoolState) → StandsFor p devs (held start) found → StandsFor p devs c found
  pub others : ForNoOther p devs (held start) → ForNoOther p devs c

-- The devices had settled, and no candidate of the pool was on them.
abbrev pub ClearingStandsAlike : Type 0
ClearingStandsAlike = (p : ℕ) (devs : Devices) (start s : State) → ((k : ℕ) (d : Path) → slice_get (paths devs) k ≡ Some d → IsSettled (start d))
    → newest_over p devs (held start) ≡ None → AllClearing (paths devs) start s → (c : Image) → LeftOf p devs s c → IsAlike p devs start c
