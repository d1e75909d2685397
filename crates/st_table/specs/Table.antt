-- what the table of pools stands for, and what it tells
use Rattle.std.specs.Prelude.{ℕ, ◌+◌, ◌≡◌, List, [], ◌++◌, map, filter, filter_map, find, Bool, true, false, not, nat_lt, bytes_eq, ◌==◌, if◌then◌else◌, Option, Some, None, is_none, is_some, option_map, option_and_then}
use Rattle.std.specs.List.{list_any}
use Rattle.st_units.specs.declared.rows.DevRow.{DevRow}
use Rattle.st_model.specs.declared.info.ShownMode.{ShownMode}
use Rattle.st_model.specs.declared.info.ShownMode.TheVariants as shows
use Rattle.st_model.specs.declared.info.StoppedRow.{StoppedRow}
use Rattle.st_model.specs.declared.info.TableInfo.{TableInfo}
use Rattle.st_model.specs.declared.state.KnownPool.{KnownPool}
use Rattle.st_model.specs.Look.{Text, has_path, row_of}
use Rattle.st_model.specs.OnTable.{is_held, user_of}
use Rattle.st_model.specs.Parts.{is_used, free_of}
use Rattle.st_table.specs.declared.halted.HaltedInfo.{HaltedInfo}
use Rattle.st_table.specs.declared.halted.HaltedMode.{HaltedMode}
use Rattle.st_table.specs.declared.halted.HaltedMode.TheVariants.{Stopped, Unsettled, Incomplete}
use Rattle.st_order.specs.Sorted.{IsRising, entered}

-- a known pool; `halted` tells more of one that isn't started
pub record TablePool : Type 0 where
  pub known : KnownPool
  pub halted : Option HaltedInfo

pub record TableView : Type 0 where
  -- in byte order of their names
  pub pools : List TablePool
  -- those of the rack, in byte order of their paths
  pub devices : List DevRow
  -- the serial that the next pool gets
  pub next : ℕ
  -- memory for a change is there
  pub prepared : Bool
  -- an info of the present table is there
  pub spare : Bool

abbrev pub name_of : TablePool → Text
name_of pool = pool.known.name

abbrev pub is_named : Text → TablePool → Bool
is_named name pool = bytes_eq pool.known.name name

abbrev pub pool_named : Text → List TablePool → Option TablePool
pool_named name = find (is_named name)

-- the pool of this serial, and its name
abbrev pub pool_with : ℕ → List TablePool → Option TablePool
pool_with serial = find (λ (pool : TablePool). pool.known.serial == serial)

abbrev pub named : ℕ → List TablePool → Option Text
named serial pools = option_map name_of (pool_with serial pools)

abbrev pub knows : Text → List TablePool → Bool
knows name = list_any (is_named name)

abbrev pub is_running : Option TablePool → Bool
is_running None = false
is_running (Some pool) = is_none pool.halted

-- the pool of this name is known and isn't stopped
abbrev pub runs : Text → List TablePool → Bool
runs name pools = is_running (pool_named name pools)

abbrev pub names_of : List TablePool → List KnownPool
names_of = map (λ (pool : TablePool). pool.known)

-- a pool holds the name: as its own, or as the one that a rename in flight gives it
abbrev pub is_taken : Text → List TablePool → Bool
is_taken name = list_any (λ (pool : TablePool). is_held name pool.known)

abbrev pub has_serial : ℕ → List TablePool → Bool
has_serial serial = list_any (λ (pool : TablePool). pool.known.serial == serial)

-- a device of the rack that none of the pools uses, or none of the rack
abbrev pub IsFree : List TablePool → List DevRow → Text → Type 0
IsFree pools rows path = is_some (row_of path rows) ≡ true → list_any (λ (pool : TablePool). is_used path pool.known) pools ≡ false

abbrev pub without : Text → List TablePool → List TablePool
without name = filter (λ (pool : TablePool). not (is_named name pool))

abbrev pub with_pool : TablePool → List TablePool → List TablePool
with_pool = entered name_of

-- the other pools, with this one in the place of the pool of that name
abbrev pub with_instead : Text → TablePool → List TablePool → List TablePool
with_instead name pool pools = with_pool pool (without name pools)

-- the table with other pools: a change uses up what was prepared, and the spare would show what was before it
abbrev pub changed : TableView → List TablePool → TableView
changed t pools = record t { pools = pools; prepared = false; spare = false }

-- the next serial is above each that was given
abbrev pub next_above : ℕ → ℕ → ℕ
next_above serial next = if nat_lt serial next then next else serial + 1

abbrev pub new_pool : Text → ℕ → List Text → TablePool
new_pool name serial devices = record { known = record { name = name; serial = serial; new = None; devices = devices }; halted = None }

abbrev pub renamed : Text → TablePool → TablePool
renamed new pool = record pool { known = record pool.known { name = new } }

abbrev pub holding : Text → TablePool → TablePool
holding new pool = record pool { known = record pool.known { new = Some new } }

abbrev pub with_devices : List Text → TablePool → TablePool
with_devices devices pool = record pool { known = record pool.known { devices = pool.known.devices ++ devices } }

abbrev pub halted_as : HaltedInfo → TablePool → TablePool
halted_as info pool = record { known = record pool.known { new = info.new; devices = info.devs }; halted = Some info }

abbrev pub woken : Text → List Text → TablePool → TablePool
woken name devices pool = new_pool name pool.known.serial devices

-- what is told of the pool of a name
abbrev pub new_at : Text → List TablePool → Option Text
new_at name pools = option_and_then (λ (pool : TablePool). pool.known.new) (pool_named name pools)

abbrev pub halted_at : Text → List TablePool → Option HaltedInfo
halted_at name pools = option_and_then (λ (pool : TablePool). pool.halted) (pool_named name pools)

abbrev pub devices_in : Option TablePool → List Text
devices_in None = []
devices_in (Some pool) = pool.known.devices

abbrev pub devices_at : Text → List TablePool → List Text
devices_at name pools = devices_in (pool_named name pools)

abbrev pub user_name : Text → List TablePool → Option Text
user_name path pools = option_map (λ (pool : KnownPool). pool.name) (user_of path (names_of pools))

-- the list is of these paths, in byte order, each once
pub record AreInOrder (paths list : List Text) : Type 0 where
  pub rising : IsRising list
  pub same : (path : Text) → has_path path list ≡ has_path path paths

abbrev pub shown_mode : HaltedMode → ShownMode
shown_mode Stopped = shows.Stopped
shown_mode Unsettled = shows.Unsettled
shown_mode (Incomplete path) = shows.Incomplete

abbrev pub stopped_row : TablePool → Option StoppedRow
stopped_row pool = option_map (λ (info : HaltedInfo). record { name = pool.known.name; serial = pool.known.serial; mode = shown_mode info.mode }) pool.halted

-- what a report shows of the table
abbrev pub shown : List TablePool → List DevRow → ℕ → TableInfo
shown pools devices next = record { next = next; free = free_of (names_of pools) devices; stopped = filter_map stopped_row pools }
