-- what the calls ask of a state
use Rattle.std.specs.Prelude.{ℕ, List, [], ◌∷◌, ◌++◌, Bool, true, false, not, ◌||◌, bytes_eq, find, filter, Option, Some, None, is_some, is_none, if◌then◌else◌}
use Rattle.std.specs.List.{list_any}
use Rattle.st_units.specs.declared.rows.DevRow.{DevRow}
use Rattle.st_model.specs.declared.call.Call.{Call}
use Rattle.st_model.specs.declared.call.Call.TheVariants.{CreatePool, RenamePool, AddDataDevs, InitCache, AddCacheDevs}
use Rattle.st_model.specs.declared.state.PoolMode.{PoolMode}
use Rattle.st_model.specs.declared.state.PoolMode.TheVariants.{Up, Down, Stopped, Unsettled, Incomplete}
use Rattle.st_model.specs.declared.state.PoolState.{PoolState}

-- a name, or a path of a device
abbrev pub Text : Type 0
Text = List ℕ

abbrev pub has_path : Text → List Text → Bool
has_path path = list_any (λ p. bytes_eq p path)

abbrev pub row_of : Text → List DevRow → Option DevRow
row_of path = find (λ row. bytes_eq row.path path)

-- the first path that the rack doesn't have
abbrev pub first_absent : List Text → List DevRow → Option Text
first_absent paths rows = find (λ path. is_none (row_of path rows)) paths

-- all paths but those that are equal to this one
abbrev pub without : Text → List Text → List Text
without path = filter (λ p. not (bytes_eq path p))

-- each path once, at its first place
abbrev pub distinct : List Text → List Text
distinct [] = []
distinct (path ∷ paths) = path ∷ without path (distinct paths)

-- the paths with this one, once
abbrev pub kept : List Text → Text → List Text
kept list path = if has_path path list then list else list ++ path ∷ []

-- the call in flight of a pool that is down or unsettled
abbrev pub flight_of : PoolMode → Option Call
flight_of Up = None
flight_of (Down call) = Some call
flight_of Stopped = None
flight_of (Unsettled call) = Some call
flight_of (Incomplete path) = None

-- the devices that a call takes for a pool
abbrev pub devices_taken : Call → List Text
devices_taken (CreatePool name devices) = devices
devices_taken (AddDataDevs pool devices) = devices
devices_taken (InitCache pool devices) = devices
devices_taken (AddCacheDevs pool devices) = devices
devices_taken _ = []

-- the name that a call gives to a pool that had another
abbrev pub name_given : Call → Option Text
name_given (RenamePool name new) = Some new
name_given _ = None

abbrev pub takes_path : Text → Option Call → Bool
takes_path path None = false
takes_path path (Some call) = has_path path (devices_taken call)

-- whether the pool uses the device: in its state, or in its call in flight
abbrev pub uses : Text → PoolState → Bool
uses path pool = is_some (row_of path pool.devices) || takes_path path (flight_of pool.mode)

abbrev pub pool_using : Text → List PoolState → Option PoolState
pool_using path = find (uses path)

-- the first path that some pool uses
abbrev pub first_used : List Text → List PoolState → Option Text
first_used paths pools = find (λ path. is_some (pool_using path pools)) paths

abbrev pub is_called : Text → PoolState → Bool
is_called name pool = bytes_eq pool.name name

abbrev pub is_name_of : Text → Option Text → Bool
is_name_of name None = false
is_name_of name (Some new) = bytes_eq new name

abbrev pub gives_name : Text → Option Call → Bool
gives_name name None = false
gives_name name (Some call) = is_name_of name (name_given call)

-- whether the pool holds the name: as its own, or as the one that a rename in flight gives it
abbrev pub holds : Text → PoolState → Bool
holds name pool = is_called name pool || gives_name name (flight_of pool.mode)

abbrev pub holder : Text → List PoolState → Option PoolState
holder name = find (holds name)

abbrev pub is_up : PoolMode → Bool
is_up Up = true
is_up (Down call) = false
is_up Stopped = false
is_up (Unsettled call) = false
is_up (Incomplete missing) = false

-- up or down, so that the engine runs it
abbrev pub is_started : PoolMode → Bool
is_started Up = true
is_started (Down call) = true
is_started Stopped = false
is_started (Unsettled call) = false
is_started (Incomplete missing) = false
