-- the model's table that a table of pools stands for, and what both tell alike
use Rattle.std.specs.Prelude.{◌≡◌, ℕ, List, [], length, map, find, ◌==◌, Option, Some, None, is_some}
use Rattle.std.specs.List.{list_any}
use Rattle.st_model.specs.declared.state.KnownPool.{KnownPool}
use Rattle.st_model.specs.declared.state.PoolMode.{PoolMode}
use Rattle.st_model.specs.declared.state.PoolMode.TheVariants.{Up, Down, Stopped, Unsettled, Incomplete}
use Rattle.st_model.specs.declared.state.PoolState.{PoolState}
use Rattle.st_model.specs.declared.state.TableState.{TableState}
use Rattle.st_model.specs.Look.{Text, devices_taken, name_given}
use Rattle.st_model.specs.OnTable.{is_held}
use Rattle.st_model.specs.Parts.{known, pool_at, free_of}
use Rattle.st_order.specs.Sorted.{ordered}
use Rattle.st_table.specs.declared.halted.HaltedInfo.{HaltedInfo}
use Rattle.st_table.specs.declared.halted.HaltedMode.{HaltedMode}
use Rattle.st_table.specs.declared.halted.HaltedMode.TheVariants as halted
use Rattle.st_table.specs.Table.{TablePool, TableView, names_of, is_taken, has_serial}

abbrev pub known_name : KnownPool → Text
known_name pool = pool.name

abbrev pub halted_so : HaltedMode → PoolState → HaltedInfo
halted_so mode pool = record { mode = mode; devs = (known pool).devices; flight = []; new = None }

-- what the table keeps of a pool that isn't started
abbrev pub info_in : PoolState → PoolMode → Option HaltedInfo
info_in pool Up = None
info_in pool (Down call) = None
info_in pool Stopped = Some (halted_so halted.Stopped pool)
info_in pool (Unsettled call) = Some (record { mode = halted.Unsettled; devs = (known pool).devices; flight = devices_taken call; new = name_given call })
info_in pool (Incomplete path) = Some (halted_so (halted.Incomplete path) pool)

abbrev pub info_of : Option PoolState → Option HaltedInfo
info_of None = None
info_of (Some pool) = info_in pool pool.mode

-- a known pool with what is kept of it where it is among the stopped ones
abbrev pub tabled : List PoolState → KnownPool → TablePool
tabled stopped pool = record { known = pool; halted = info_of (pool_at pool.name stopped) }

-- the model's pools stand in order of their serials, the table's in byte order of their names
pub record Stands (view : TableView) (t : TableState) : Type 0 where
  pub pools : view.pools ≡ map (tabled t.stopped) (ordered known_name t.names)
  pub devices : view.devices ≡ t.devices
  pub next : view.next ≡ t.next

-- what is asked of a table is as the model tells it
pub record TellAlike (view : TableView) (t : TableState) : Type 0 where
  pub held : (name : Text) → is_taken name view.pools ≡ is_some (find (is_held name) t.names)
  pub serials : (serial : ℕ) → has_serial serial view.pools ≡ list_any (λ (pool : KnownPool). pool.serial == serial) t.names
  pub free : free_of (names_of view.pools) view.devices ≡ free_of t.names t.devices
  pub count : length view.pools ≡ length t.names

abbrev pub Alike : Type 0
Alike = (view : TableView) (t : TableState) → Stands view t → TellAlike view t
