-- CreatePool: a new pool on the devices given
use Rattle.std.specs.Prelude.{ℕ, ◌+◌, List, [], ◌∷◌, ◌++◌, length, Bool, true, false, ◌&&◌, ◌||◌, nat_le, nat_lt, map, Option, Some, None, if◌then◌else◌}
use Rattle.std.specs.List.{list_all}
use Rattle.st_limits.specs.declared.TheConstants.{DEFAULT_FS_LIMIT, FIRST_ALLOCATION, MAX_POOLS, MAX_POOL_DEVICES, MAX_POOL_SERIAL}
use Rattle.st_units.specs.declared.rows.Tier.TheVariants.{DataTier}
use Rattle.st_units.specs.declared.rows.DevRow.{DevRow}
use Rattle.st_units.specs.declared.cause.Cause.TheVariants.{NameInUse, TooManyDevices, TooManyPools}
use Rattle.st_model.specs.declared.call.Call.TheVariants as calls
use Rattle.st_model.specs.declared.reply.Given.TheVariants.{Created}
use Rattle.st_model.specs.declared.reply.Reply.{Reply}
use Rattle.st_model.specs.declared.state.PoolMode.TheVariants.{Up, Down}
use Rattle.st_model.specs.declared.state.PoolState.{PoolState}
use Rattle.st_model.specs.declared.state.EngineState.{EngineState}
use Rattle.st_model.specs.Answer.{accepted, refused, refused_where, first_answer, unless_answered}
use Rattle.st_model.specs.Checks.{no_devices, absent_device, used_device, rows_on, small_device}
use Rattle.st_model.specs.Look.{Text, has_path, distinct, is_called, holder, is_up}
use Rattle.st_model.specs.Sums.{data_tier}

abbrev pub data_paths : List DevRow → List Text
data_paths rows = map (λ (row : DevRow). row.path) (data_tier rows)

abbrev pub same_set : List Text → List Text → Bool
same_set xs ys = list_all (λ x. has_path x ys) xs && list_all (λ y. has_path y xs) ys

-- the pool is what the call asks for: started and whole, of this name, and on these devices
abbrev pub is_made : Text → List Text → PoolState → Bool
is_made name paths pool = is_up pool.mode && is_called name pool && same_set (data_paths pool.devices) paths

-- a pool holds the name
abbrev pub answer_held : Text → List Text → Option PoolState → Option Reply
answer_held name paths None = None
answer_held name paths (Some pool) = if is_made name paths pool then Some (accepted (Created false None)) else Some (refused NameInUse)

-- the answers that change nothing, in the order in which they are tried
abbrev pub create_answers : EngineState → Text → List Text → List (Option Reply)
create_answers s name paths =
    no_devices paths
    ∷ absent_device paths s.devices
    ∷ answer_held name paths (holder name s.pools)
    ∷ used_device paths s.pools
    ∷ small_device paths s.devices
    ∷ refused_where (nat_lt MAX_POOL_DEVICES (length (distinct paths))) TooManyDevices
    ∷ refused_where (nat_le MAX_POOLS (length s.pools) || nat_lt MAX_POOL_SERIAL s.next) TooManyPools
    ∷ []

unfoldable pub create_answer : EngineState → Text → List Text → Option Reply
create_answer s name paths = first_answer (create_answers s name paths)

abbrev pub data_rows : List DevRow → List Text → List DevRow
data_rows rows paths = rows_on DataTier rows paths

abbrev pub new_pool : ℕ → Text → List DevRow → PoolState
new_pool serial name rows = record {
  serial = serial;
  name = name;
  mode = Up;
  devices = rows;
  filesystems = [];
  cells = [];
  next_cell = 1;
  next_filesystem = 1;
  allocated = FIRST_ALLOCATION;
  filesystem_limit = DEFAULT_FS_LIMIT;
  overprovisioning = true;
  commits = 1;
  cache = None;
}

-- the pool whose first commit failed: its serial, its name, the call in flight, and nothing else
abbrev pub broken_pool : ℕ → Text → List Text → PoolState
broken_pool serial name paths = record {
  serial = serial;
  name = name;
  mode = Down (calls.CreatePool name paths);
  devices = [];
  filesystems = [];
  cells = [];
  next_cell = 1;
  next_filesystem = 1;
  allocated = 0;
  filesystem_limit = 0;
  overprovisioning = false;
  commits = 0;
  cache = None;
}

abbrev pub with_pool : EngineState → PoolState → EngineState
with_pool s pool = record s { pools = s.pools ++ pool ∷ []; next = s.next + 1 }

unfoldable pub create_plain : EngineState → Text → List Text → Reply × EngineState
create_plain s name paths =
    unless_answered (create_answer s name paths) s
    (accepted (Created true (Some (s.next, distinct paths))), with_pool s (new_pool s.next name (data_rows s.devices (distinct paths))))
