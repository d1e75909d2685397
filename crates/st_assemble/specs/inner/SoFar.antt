-- What was found up to a serial.
use Rattle.std.specs.Prelude.{◌≡◌, ℕ, ◌≤◌, Bool, true, ◌==◌, bytes_eq, List, length, find, map, Option}
use Rattle.std.specs.List.{AllByRecursion, list_any}
use Rattle.st_limits.specs.declared.TheConstants.{MAX_POOLS}
use Rattle.st_poolrec.specs.declared.record.PoolRec.{PoolRec}
use Rattle.st_model.specs.declared.state.PoolState.{PoolState}
use Rattle.st_rack.specs.Device.{Image}
use Rattle.st_rack.specs.Calls.{Devices}
use Rattle.st_image.specs.Bears.{Bears}
use Rattle.st_image.specs.Stands.{StandsFor}
use Rattle.st_image.specs.Rack.{IsSerial, SerialsRise, NamesDiffer}
use Rattle.st_judge.specs.declared.rows.FoundRow.{FoundRow}
use Rattle.st_judge.specs.declared.rows.GoneRow.{GoneRow}
use Rattle.st_judge.specs.Verdicts.{IsGone}
use Rattle.st_assemble.specs.Found.{row_of, IsTold, GoneRise}

-- the pool of a serial
abbrev pub pool_of : ℕ → List PoolState → Option PoolState
pool_of p pools = find (λ (q : PoolState). q.serial == p) pools

-- the known pools up to a serial, and the rows that tell them
pub record PoolsUpTo (devs : Devices) (c : Image) (last : ℕ) (rows : List FoundRow) : Type 0 where
  pub pools : List PoolState
  pub told : rows ≡ map row_of pools
  pub each : (p : ℕ) → IsSerial p → p ≤ last → StandsFor p devs c (pool_of p pools)
  pub rise : SerialsRise pools
  pub below : AllByRecursion (λ (pool : PoolState). pool.serial ≤ last) pools
  pub names : NamesDiffer pools
  pub few : length pools ≤ MAX_POOLS

-- the pools up to a serial that are gone
pub record GoneUpTo (devs : Devices) (c : Image) (last : ℕ) (rows : List GoneRow) : Type 0 where
  pub each : AllByRecursion (λ (row : GoneRow). IsGone row.serial devs c row) rows
  pub all : (p g : ℕ) (rec : PoolRec) → IsSerial p → p ≤ last → Bears p devs g rec c → rec.gone ≡ true → IsTold rows p
  pub rise : GoneRise rows
  pub below : AllByRecursion (λ (row : GoneRow). row.serial ≤ last) rows

-- one of the rows has the name
abbrev pub has_name : FoundRow → List FoundRow → Bool
has_name row rows = list_any (λ (other : FoundRow). bytes_eq other.name row.name) rows
