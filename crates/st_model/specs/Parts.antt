-- what a started pool and the table stand for, and what two states have in common for a want
use Rattle.std.specs.Prelude.{◌≡◌, List, [], ◌++◌, Bool, true, map, filter, find, is_none, Option, Some, None}
use Rattle.st_units.specs.declared.rows.DevRow.{DevRow}
use Rattle.st_wants.specs.declared.want.Want.{Want}
use Rattle.st_wants.specs.declared.want.Want.TheVariants as wants
use Rattle.st_wants.specs.Names.{is_named}
use Rattle.st_model.specs.declared.call.Call.{Call}
use Rattle.st_model.specs.declared.info.TableInfo.{TableInfo}
use Rattle.st_model.specs.declared.state.EngineState.{EngineState}
use Rattle.st_model.specs.declared.state.KnownPool.{KnownPool}
use Rattle.st_model.specs.declared.state.PoolState.{PoolState}
use Rattle.st_model.specs.declared.state.TableState.{TableState}
use Rattle.st_model.specs.Look.{Text, has_path, is_called, flight_of, devices_taken, name_given}
use Rattle.st_model.specs.Shown.{started_pools, halted_pools, stopped_with}

abbrev pub paths_taken : Option Call → List Text
paths_taken None = []
paths_taken (Some call) = devices_taken call

abbrev pub new_name : Option Call → Option Text
new_name None = None
new_name (Some call) = name_given call

-- what the table tells of a pool
abbrev pub known : PoolState → KnownPool
known pool = record {
  name = pool.name;
  serial = pool.serial;
  new = new_name (flight_of pool.mode);
  devices = map (λ (row : DevRow). row.path) pool.devices ++ paths_taken (flight_of pool.mode);
}

-- what the table stands for
abbrev pub table_of : EngineState → TableState
table_of s = record { names = map known s.pools; stopped = halted_pools s.pools; devices = s.devices; next = s.next }

-- the started pools
abbrev pub started : EngineState → List PoolState
started s = started_pools s.pools

-- the pool of this name
abbrev pub pool_at : Text → List PoolState → Option PoolState
pool_at name pools = find (is_called name) pools

-- the started pool of this name
abbrev pub own : Text → EngineState → Option PoolState
own name s = pool_at name (started s)

-- a known pool uses the device
abbrev pub is_used : Text → KnownPool → Bool
is_used path pool = has_path path pool.devices

-- the devices that no known pool uses, in the order of the rack's
abbrev pub free_of : List KnownPool → List DevRow → List Text
free_of names rows = map (λ (row : DevRow). row.path) (filter (λ (row : DevRow). is_none (find (is_used row.path) names)) rows)

-- what a report shows of the table
abbrev pub shown_table : TableState → TableInfo
shown_table t = record { next = t.next; free = free_of t.names t.devices; stopped = stopped_with [] t.stopped }

-- the states agree on the started pools of these names and on the table
pub record AgreeOn (is_in : Text → Bool) (s t : EngineState) : Type 0 where
  pub pools : (n : Text) → is_in n ≡ true → own n s ≡ own n t
  pub table : table_of s ≡ table_of t

-- the states agree on what a want names: on the started pools of its names and on the table, or on all
abbrev pub Agree : Want → EngineState → EngineState → Type 0
Agree (wants.Some names mode) s t = AgreeOn (is_named names) s t
Agree (wants.All mode) s t = s ≡ t
