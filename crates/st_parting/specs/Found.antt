-- A rack on which a state of the engine was found.
use Rattle.std.specs.Prelude.{◌≡◌, ℕ, ◌%◌, true, Some}
use Rattle.st_poolrec.specs.declared.record.PoolRec.{PoolRec}
use Rattle.st_poolrec.specs.Record as pools
use Rattle.st_model.specs.declared.state.EngineState.{EngineState}
use Rattle.st_rack.specs.Device.{Path, State, Image, held}
use Rattle.st_rack.specs.Calls.{Devices, Has, Rises}
use Rattle.st_slots.specs.Reading.{read_slot}
use Rattle.st_deltalog.specs.Bearing.{IsSettled}
use Rattle.st_judge.specs.Placing.{has_row}
use Rattle.st_image.specs.Looks.{pool_area, has_header}
use Rattle.st_image.specs.Bears.{Bears}
use Rattle.st_image.specs.Rack.{IsSerial, RackStands}

-- nothing is pending on any device of the rack
abbrev pub AllSettled : Devices → State → Type 0
AllSettled devs s = (p : Path) (n : ℕ) → Has devs p n → IsSettled (s p)

-- The devices are settled, and stand for this state as they read.
pub record IsFoundOn (devs : Devices) (s : State) (e : EngineState) : Type 0 where
  pub rises : Rises devs
  pub settled : AllSettled devs s
  pub stands : RackStands devs (held s) e

-- Of each pool that is gone, each device of its rows with its header bears the newest record.
abbrev pub AllFinished : Devices → Image → Type 0
AllFinished devs c = (q g : ℕ) (rec : PoolRec) → IsSerial q → Bears q devs g rec c → rec.gone ≡ true → (p : Path) (n : ℕ) → Has devs p n → has_header q n (c p) ≡ true → has_row rec.devs p ≡ true
    → read_slot pool_area (g % 2) (c p) ≡ Some (g, pools.record_text rec)
