-- What is told of one pool.
use Rattle.std.specs.Prelude.{◌≡◌, ℕ, ◌<◌, Option, Some, None}
use Rattle.st_model.specs.declared.state.PoolState.{PoolState}
use Rattle.st_rack.specs.Device.{Image}
use Rattle.st_rack.specs.Calls.{Devices}
use Rattle.st_image.specs.Stands.{StandsFor}
use Rattle.st_image.specs.Rack.{IsSerial}
use Rattle.st_judge.specs.declared.rows.FoundRow.{FoundRow}
use Rattle.st_judge.specs.declared.rows.GoneRow.{GoneRow}
use Rattle.st_judge.specs.Verdicts.{IsGone}
use Rattle.st_image.specs.Bears.{newest_over}
use Rattle.st_assemble.specs.Found.{row_of}
use Rattle.st_assemble.specs.declared.told.Told.{Told}
use Rattle.st_assemble.specs.declared.told.Told.TheVariants as told

-- the devices stand for a known pool of the serial, and the row tells it
pub record IsKnownRow (p : ℕ) (devs : Devices) (c : Image) (row : FoundRow) : Type 0 where
  pub pool : PoolState
  pub serial : pool.serial ≡ p
  pub stands : StandsFor p devs c (Some pool)
  pub is : row ≡ row_of pool

-- they stand neither for a pool of the serial nor for none
abbrev pub StandsForNothing : ℕ → Devices → Image → Type 0
StandsForNothing p devs c = (found : Option PoolState) → StandsFor p devs c found → ⊥

-- the row of a pool whose log was read, or that its log breaks a rule
abbrev pub IsWhole : ℕ → Devices → Image → Option FoundRow → Type 0
IsWhole p devs c None = StandsForNothing p devs c
IsWhole p devs c (Some row) = IsKnownRow p devs c row

abbrev pub IsTold : ℕ → Devices → Image → Told → Type 0
IsTold p devs c told.Nothing = newest_over p devs c ≡ None
IsTold p devs c (told.Gone row) = (row.serial ≡ p) × IsGone p devs c row
IsTold p devs c (told.Known row) = IsKnownRow p devs c row

-- no pool of a serial between these two is known
abbrev pub NoneBetween : Devices → Image → ℕ → ℕ → Type 0
NoneBetween devs c last p = (q : ℕ) → IsSerial q → last < q → q < p → newest_over q devs c ≡ None
