-- which states of the engine are valid
--
-- Names and paths carry their own limits, and bytes theirs, in the types of which they are values.
use Rattle.std.specs.Prelude.{◌≡◌, ◌+◌, ◌<◌, ◌≤◌, List, length, map, Bool, true, is_some, Option, Some, None, option_map}
use Rattle.std.specs.Ordering.{nat_cmp}
use Rattle.std.specs.Cmp.Lexicographic.{slice_cmp}
use Rattle.std.specs.List.{AllByRecursion}
use Rattle.std.specs.List.Sorted.{IsStrictlySortedBy}
use Rattle.st_limits.specs.declared.TheConstants.{MAX_DEVICE_SECTORS, MAX_POOLS, MAX_POOL_SERIAL, MAX_RACK_DEVICES}
use Rattle.st_units.specs.declared.rows.DevRow.{DevRow}
use Rattle.st_model.specs.declared.call.Call.{Call}
use Rattle.st_model.specs.declared.call.Call.TheVariants.{CreatePool, DestroyPool, RenamePool, AddDataDevs, InitCache, AddCacheDevs, CreateFilesystems, DestroyFilesystems, SnapshotFilesystem, RenameFilesystem, SetSizeLimit, SetFsLimit, SetOverprovisioning, FsWrite, FsRead, Check, SetMerge}
use Rattle.st_model.specs.declared.state.PoolMode.{PoolMode}
use Rattle.st_model.specs.declared.state.PoolMode.TheVariants.{Up, Down, Stopped, Unsettled, Incomplete}
use Rattle.st_model.specs.declared.state.PoolState.{PoolState}
use Rattle.st_model.specs.declared.state.EngineState.{EngineState}
use Rattle.st_model.specs.Flight.{state_before}
use Rattle.st_model.specs.Local.{Outcome}
use Rattle.st_model.specs.Look.{Text, row_of, first_absent, flight_of, devices_taken, uses, holds}
use Rattle.st_model.specs.Plain.{plain}
use Rattle.st_model.specs.ValidPool.{EachPair, IsValidPool}

-- the rack has the device
abbrev pub is_there : List DevRow → Text → Bool
is_there rows path = is_some (row_of path rows)

-- two pools hold no common name, the later one has the higher serial, and no device of the rack is used by both
pub record Apart (rows : List DevRow) (p q : PoolState) : Type 0 where
  pub names : (name : Text) → holds name p ≡ true → holds name q ≡ true → ⊥
  pub serials : p.serial < q.serial
  pub devices : (path : Text) → is_there rows path ≡ true → uses path p ≡ true → uses path q ≡ true → ⊥

-- the devices of a rack, in byte order of their paths, each path once
pub record AreRackRows (rows : List DevRow) : Type 0 where
  pub few : length rows ≤ MAX_RACK_DEVICES
  pub small : AllByRecursion (λ (row : DevRow). row.sectors ≤ MAX_DEVICE_SECTORS) rows
  pub rising : IsStrictlySortedBy (slice_cmp nat_cmp) (map (λ (row : DevRow). row.path) rows)

-- the rack has the pool's device, with the sectors that the pool knows
abbrev pub IsRow : List DevRow → DevRow → Type 0
IsRow rows own = option_map (λ (row : DevRow). row.sectors) (row_of own.path rows) ≡ Some own.sectors

-- the rack has the devices that the call takes
abbrev pub AreTaken : List DevRow → Call → Type 0
AreTaken rows call = AllByRecursion (λ path. is_there rows path ≡ true) (devices_taken call)

-- The rack has the devices in use by the pool; where one is missing, the path is that of the first that it doesn't have.
abbrev pub AreThere : List DevRow → PoolState → PoolMode → Type 0
AreThere rows p Up = AllByRecursion (IsRow rows) p.devices
AreThere rows p (Down call) = AllByRecursion (IsRow rows) p.devices × AreTaken rows call
AreThere rows p Stopped = AllByRecursion (IsRow rows) p.devices
AreThere rows p (Unsettled call) = AllByRecursion (IsRow rows) p.devices × AreTaken rows call
AreThere rows p (Incomplete path) = first_absent (map (λ (row : DevRow). row.path) p.devices) rows ≡ Some path

-- the calls whose writes may fail, each on the pool of this name
abbrev pub IsOn : Text → Call → Type 0
IsOn n (CreatePool name devices) = name ≡ n
IsOn n (DestroyPool name) = name ≡ n
IsOn n (RenamePool name new) = name ≡ n
IsOn n (AddDataDevs pool devices) = pool ≡ n
IsOn n (InitCache pool devices) = pool ≡ n
IsOn n (AddCacheDevs pool devices) = pool ≡ n
IsOn n (CreateFilesystems pool filesystems) = pool ≡ n
IsOn n (DestroyFilesystems pool names) = pool ≡ n
IsOn n (SnapshotFilesystem pool origin name) = pool ≡ n
IsOn n (RenameFilesystem pool name new) = pool ≡ n
IsOn n (SetSizeLimit pool name limit) = pool ≡ n
IsOn n (SetFsLimit pool limit) = pool ≡ n
IsOn n (SetOverprovisioning pool value) = pool ≡ n
IsOn n (FsWrite pool name sector payload) = pool ≡ n
IsOn n (FsRead pool name sector sectors) = pool ≡ n
IsOn n (Check pool) = pool ≡ n
IsOn n (SetMerge pool name value) = pool ≡ n
IsOn n call = ⊥

abbrev pub IsOnIfAny : Text → Option Call → Type 0
IsOnIfAny n None = Unit {0}
IsOnIfAny n (Some call) = IsOn n call

-- an outcome that is an acceptance
abbrev pub IsAccepted : Outcome → Type 0
IsAccepted None = ⊥
IsAccepted (Some answered) = answered.0.code ≡ 0

-- the call in flight, if there is one, would have been accepted where it was made, and so is sound
abbrev pub IsFlight : EngineState → PoolState → Option Call → Type 0
IsFlight s p None = Unit {0}
IsFlight s p (Some call) = IsAccepted (plain (state_before s p call) call)

-- Pools stand in order of creation.
pub record IsValid (s : EngineState) : Type 0 where
  pub from_one : 1 ≤ s.next
  pub bounded : s.next ≤ MAX_POOL_SERIAL + 1
  pub rack : AreRackRows s.devices
  pub count : length s.pools ≤ MAX_POOLS
  pub pools : AllByRecursion (IsValidPool s.next) s.pools
  pub there : AllByRecursion (λ (p : PoolState). AreThere s.devices p p.mode) s.pools
  pub on : AllByRecursion (λ (p : PoolState). IsOnIfAny p.name (flight_of p.mode)) s.pools
  pub flights : AllByRecursion (λ (p : PoolState). IsFlight s p (flight_of p.mode)) s.pools
  pub apart : EachPair (Apart s.devices) s.pools
