-- What was found on the devices of a rack.
use Rattle.std.specs.Prelude.{◌≡◌, ℕ, ◌<◌, true, List, [], ◌∷◌, map, Option, Some, None, slice_get}
use Rattle.std.specs.List.{AllByRecursion}
use Rattle.st_poolrec.specs.declared.record.PoolRec.{PoolRec}
use Rattle.st_model.specs.declared.state.EngineState.{EngineState}
use Rattle.st_model.specs.declared.state.PoolMode.{PoolMode}
use Rattle.st_model.specs.declared.state.PoolMode.TheVariants.{Up, Down, Stopped, Unsettled, Incomplete}
use Rattle.st_model.specs.declared.state.PoolState.{PoolState}
use Rattle.st_rack.specs.Device.{Path, Image}
use Rattle.st_rack.specs.Calls.{Devices}
use Rattle.st_image.specs.Bears.{Bears}
use Rattle.st_image.specs.Rack.{IsSerial, RackStands}
use Rattle.st_judge.specs.declared.rows.FoundRow.{FoundRow}
use Rattle.st_judge.specs.declared.rows.GoneRow.{GoneRow}
use Rattle.st_judge.specs.Verdicts.{IsGone}
use Rattle.st_assemble.specs.declared.taking.Found.{Found}

-- the device that an incomplete pool lacks
abbrev pub lacked : PoolMode → Option Path
lacked Up = None
lacked (Down call) = None
lacked Stopped = None
lacked (Unsettled call) = None
lacked (Incomplete path) = Some path

-- what is told of a known pool
abbrev pub row_of : PoolState → FoundRow
row_of pool = record { serial = pool.serial; name = pool.name; devs = pool.devices; missing = lacked pool.mode }

abbrev pub GoneRise : List GoneRow → Type 0
GoneRise [] = Unit {0}
GoneRise (row ∷ rows) = AllByRecursion (λ (other : GoneRow). row.serial < other.serial) rows × GoneRise rows

-- one of the rows is of this serial
pub record IsTold (rows : List GoneRow) (p : ℕ) : Type 0 where
  pub index : ℕ
  pub row : GoneRow
  pub of : slice_get rows index ≡ Some row
  pub serial : row.serial ≡ p

-- the rows are just the pools whose newest record says that they are gone, in order of their serials
pub record AreGone (devs : Devices) (c : Image) (rows : List GoneRow) : Type 0 where
  pub each : AllByRecursion (λ (row : GoneRow). IsGone row.serial devs c row) rows
  pub all : (p g : ℕ) (rec : PoolRec) → IsSerial p → Bears p devs g rec c → rec.gone ≡ true → IsTold rows p
  pub rise : GoneRise rows

-- The devices stand for a state of the engine, and this tells its pools, those that are gone, and its next serial.
pub record IsFound (devs : Devices) (c : Image) (found : Found) : Type 0 where
  pub state : EngineState
  pub stands : RackStands devs c state
  pub pools : found.pools ≡ map row_of state.pools
  pub gone : AreGone devs c found.gone
  pub next : found.next ≡ state.next
