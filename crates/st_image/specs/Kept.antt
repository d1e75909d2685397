-- Whether the devices of a pool keep its state.
use Rattle.std.specs.Prelude.{◌≡◌, ◌≢◌, ℕ, suc, ◌%◌, true, List, [], ◌++◌, map, filter, not, Option, Some, None, is_some, unwrap_or, slice_get}
use Rattle.st_units.specs.declared.rows.DevRow.{DevRow}
use Rattle.st_poolrec.specs.declared.record.PoolRec.{PoolRec}
use Rattle.st_poolrec.specs.Record as pools
use Rattle.st_model.specs.declared.call.Call.{Call}
use Rattle.st_model.specs.declared.state.PoolMode.{PoolMode}
use Rattle.st_model.specs.declared.state.PoolMode.TheVariants.{Up, Down, Stopped, Unsettled, Incomplete}
use Rattle.st_model.specs.declared.state.PoolState.{PoolState}
use Rattle.st_model.specs.Look.{flight_of, devices_taken, row_of}
use Rattle.st_fields.specs.Slot.{Found}
use Rattle.st_slots.specs.Reading.{read_slot}
use Rattle.st_rack.specs.Story.{Content}
use Rattle.st_rack.specs.Device.{Path, State, Image}
use Rattle.st_rack.specs.Calls.{Devices, sectors_of, size_in}
use Rattle.st_rack.specs.Left.{LeftOn}
use Rattle.st_image.specs.Looks.{Look, look_of, pool_area}
use Rattle.st_image.specs.Bears.{newest_on, SpellsPool, paths}
use Rattle.st_image.specs.Left.{first_sectors}
use Rattle.st_image.specs.Stands.{StandsFor}
use Rattle.st_image.specs.Survivors.{recorded, Survives}

abbrev pub taken_by : Option Call → List Path
taken_by None = []
taken_by (Some call) = devices_taken call

abbrev pub as_pair : DevRow → Path × ℕ
as_pair row = (row.path, row.sectors)

-- the devices of these rows that the rack has, with the sectors that they have there
abbrev pub present : List DevRow → Devices → Devices
present rows devs = map (λ (row : DevRow). (row.path, size_in devs row.path)) (filter (λ (row : DevRow). is_some (sectors_of devs row.path)) rows)

-- the devices of a pool's state; of a pool that lacks one, those that are there
abbrev pub own_devices : PoolMode → List DevRow → Devices → Devices
own_devices Up rows devs = map as_pair rows
own_devices (Down call) rows devs = map as_pair rows
own_devices Stopped rows devs = map as_pair rows
own_devices (Unsettled call) rows devs = map as_pair rows
own_devices (Incomplete path) rows devs = present rows devs

-- The devices in use by the pool, with their sectors: those of its state in order, and then those that only its call in flight takes.
abbrev pub in_use : PoolState → Devices → Devices
in_use pool devs = own_devices pool.mode pool.devices devs ++ map (λ (path : Path). (path, unwrap_or (sectors_of devs path) 0)) (filter (λ (path : Path). not (is_some (row_of path pool.devices))) (taken_by (flight_of pool.mode)))

-- The readers of these devices. Of a pool that lacks a device no log is read: the first device of those that are there may hold data in
-- its place.
abbrev pub look_for : PoolMode → ℕ → ℕ → ℕ → Look → Content → Found
look_for Up p sectors k = look_of p sectors k
look_for (Down call) p sectors k = look_of p sectors k
look_for Stopped p sectors k = look_of p sectors k
look_for (Unsettled call) p sectors k = look_of p sectors k
look_for (Incomplete path) p sectors k = look_of p sectors (suc k)

-- a crash may leave this on the devices in use
abbrev pub LeftInUse : PoolState → Devices → State → Image → Type 0
LeftInUse pool devs s c = LeftOn (paths (in_use pool devs)) (look_for pool.mode pool.serial (first_sectors (in_use pool devs))) s c

-- what its devices may stand for, by its mode
abbrev pub IsKeptAs : PoolState → Devices → PoolMode → Option PoolState → Type 0
IsKeptAs pool devs Up found = found ≡ Some (recorded pool)
IsKeptAs pool devs (Down call) found = Survives pool call devs found
IsKeptAs pool devs Stopped found = found ≡ Some (recorded pool)
IsKeptAs pool devs (Unsettled call) found = Survives pool call devs found
IsKeptAs pool devs (Incomplete path) found = found ≡ Some pool

-- no candidate, or a newest that is gone
abbrev pub NoneOrGone : Found → Type 0
NoneOrGone None = Unit {0}
NoneOrGone (Some x) = (rec : PoolRec) × SpellsPool x.1 rec × (rec.gone ≡ true)

-- an image in which the devices keep the pool
pub record KeptIn (pool : PoolState) (devs : Devices) (c : Image) : Type 0 where
  pub found : Option PoolState
  pub stands : StandsFor pool.serial (in_use pool devs) c found
  pub kept : IsKeptAs pool devs pool.mode found
  -- each device of a pool that is up bears the record of its commits
  pub borne : pool.mode ≡ Up → (rec : PoolRec) × ((k : ℕ) (d : Path × ℕ) → slice_get (in_use pool devs) k ≡ Some d → read_slot pool_area (pool.commits % 2) (c d.0) ≡ Some (pool.commits, pools.record_text rec))
  -- each device, read alone, stands for no other pool
  pub others : (q k : ℕ) (d : Path × ℕ) → q ≢ pool.serial → slice_get (in_use pool devs) k ≡ Some d → NoneOrGone (newest_on q d.1 (c d.0))

-- The pool's devices keep its state: so it is of each image that a crash now may leave. The rack's devices are `devs`.
pub record Kept (pool : PoolState) (devs : Devices) (s : State) : Type 0 where
  pub all : (c : Image) → LeftInUse pool devs s c → KeptIn pool devs c
