-- What the devices of a rack say of one pool.
use Rattle.std.specs.Prelude.{◌≡◌, ℕ, ◌%◌, Bool, true, false, not, ◌&&◌, nat_eq, bytes_eq, List, map, filter, Option, Some, None}
use Rattle.std.specs.List.{AllByRecursion}
use Rattle.st_poolrec.specs.declared.record.PoolRec.{PoolRec}
use Rattle.st_poolrec.specs.Record as pools
use Rattle.st_model.specs.declared.state.PoolState.{PoolState}
use Rattle.st_rack.specs.Device.{Path, Image}
use Rattle.st_rack.specs.Calls.{Devices, Rises}
use Rattle.st_image.specs.Looks.{has_header, slot_on}
use Rattle.st_image.specs.Bears.{Bears, HasRow, newest_over, path_of}
use Rattle.st_image.specs.Stands.{Lacking, StandsFor}
use Rattle.st_looks.specs.declared.look.DevLook.{DevLook}
use Rattle.st_looks.specs.Looked.{looked}
use Rattle.st_judge.specs.declared.rows.FoundRow.{FoundRow}
use Rattle.st_judge.specs.declared.rows.GoneRow.{GoneRow}
use Rattle.st_judge.specs.declared.judging.Verdict.{Verdict}
use Rattle.st_judge.specs.declared.judging.Verdict.TheVariants as verdicts
use Rattle.st_judge.specs.Placing.{has_row, holds}

-- a pool that lacks the device of this path, or none
abbrev pub row_of : PoolRec → Option Path → FoundRow
row_of rec path = record { serial = rec.serial; name = rec.name; devs = rec.devs; missing = path }

-- a device of the rows with a header for the pool that lacks the record of this generation
abbrev pub lacks_record : ℕ → ℕ → PoolRec → Image → Path × ℕ → Bool
lacks_record p g rec c d = has_header p d.1 (c d.0) && (has_row rec.devs d.0 && not (holds (g, pools.record_text rec) (slot_on d.1 (g % 2) (c d.0))))

-- the devices that still want the record of a pool that is gone
abbrev pub gone_of : ℕ → ℕ → PoolRec → Devices → Image → GoneRow
gone_of p g rec devs c = record { serial = p; generation = g; rec = pools.record_text rec; devs = map path_of (filter (lacks_record p g rec c) devs) }

-- The newest record is this one, and says that the pool is gone; the row tells which devices still want it.
pub record IsGone (p : ℕ) (devs : Devices) (c : Image) (row : GoneRow) : Type 0 where
  pub rec : PoolRec
  pub bears : Bears p devs row.generation rec c
  pub gone : rec.gone ≡ true
  pub told : row ≡ gone_of p row.generation rec devs c

-- The newest record is of a known pool of which a device is missing, and the row tells it.
pub record IsLackingRow (p : ℕ) (devs : Devices) (c : Image) (row : FoundRow) : Type 0 where
  pub g : ℕ
  pub rec : PoolRec
  pub path : Path
  pub lacking : Lacking p devs c g rec path
  pub told : row ≡ row_of rec (Some path)

-- The newest record is of a known pool, and each device of its rows is there.
pub record IsHere (p : ℕ) (devs : Devices) (c : Image) (g : ℕ) (rec : PoolRec) : Type 0 where
  pub bears : Bears p devs g rec c
  pub alive : rec.gone ≡ false
  pub rows : AllByRecursion (HasRow p devs c) rec.devs

abbrev pub IsVerdict : ℕ → Devices → Image → Verdict → Type 0
IsVerdict p devs c verdicts.Nothing = newest_over p devs c ≡ None
IsVerdict p devs c (verdicts.Gone row) = IsGone p devs c row
IsVerdict p devs c (verdicts.Lacking row) = IsLackingRow p devs c row
IsVerdict p devs c (verdicts.Here g rec) = IsHere p devs c g rec
IsVerdict p devs c verdicts.Breaks = (found : Option PoolState) → StandsFor p devs c found → ⊥

-- The verdict is right of each rack whose devices show these looks.
abbrev pub IsSaid : ℕ → List DevLook → Verdict → Type 0
IsSaid p looks verdict = (devs : Devices) (c : Image) → Rises devs → looks ≡ map (looked c) devs → IsVerdict p devs c verdict
