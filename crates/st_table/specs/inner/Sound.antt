-- what the two lists of the table have to do with each other
use Rattle.std.specs.Prelude.{ℕ, ◌≡◌, List, map, Bool, true, false, ◌==◌, nat_eq, if◌then◌else◌, find, Option, Some, None, is_none, not, ◌||◌}
use Rattle.std.specs.List.{AllByRecursion, IsDistinct, list_any}
use Rattle.st_units.specs.declared.rows.DevRow.{DevRow}
use Rattle.st_model.specs.Look.{Text, has_path, row_of}
use Rattle.st_model.specs.Parts.{is_used}
use Rattle.st_table.specs.declared.device.Device.{Device}
use Rattle.st_table.specs.declared.halted.HaltedInfo.{HaltedInfo}
use Rattle.st_table.specs.declared.pool.Holding.{Holding}
use Rattle.st_table.specs.declared.pool.Holding.TheVariants.{Started, Halted}
use Rattle.st_table.specs.declared.pool.Pool.{Pool}
use Rattle.st_order.specs.Sorted.{IsRising}
use Rattle.st_table.specs.Table.{TablePool, name_of, has_serial}

abbrev pub devices_held : Holding → List Text
devices_held (Started devices new) = devices
devices_held (Halted info) = info.devs

abbrev pub new_held : Holding → Option Text
new_held (Started devices new) = new
new_held (Halted info) = info.new

abbrev pub info_held : Holding → Option HaltedInfo
info_held (Started devices new) = None
info_held (Halted info) = Some info

abbrev pub table_pool : Pool → TablePool
table_pool pool = record {
  known = record { name = pool.name; serial = pool.serial; new = new_held pool.holding; devices = devices_held pool.holding };
  halted = info_held pool.holding;
}

abbrev pub row_in : Device → DevRow
row_in device = device.row

abbrev pub path_in : Device → Text
path_in device = device.row.path

-- the device is marked as used by the pool of this serial
abbrev pub is_user : Option ℕ → ℕ → Bool
is_user None serial = false
is_user (Some user) serial = serial == user

abbrev pub is_known : Option ℕ → List TablePool → Bool
is_known None pools = true
is_known (Some user) pools = has_serial user pools

-- the device is marked with the pool that uses it, if there is one
pub record IsMarked (pools : List TablePool) (device : Device) : Type 0 where
  pub uses : AllByRecursion (λ (pool : TablePool). is_used (path_in device) pool.known ≡ is_user device.user pool.known.serial) pools
  pub known : is_known device.user pools ≡ true

pub record IsSound (devices : List Device) (pools : List TablePool) : Type 0 where
  pub names : IsRising (map name_of pools)
  pub paths : IsRising (map path_in devices)
  pub serials : IsDistinct nat_eq (map (λ (pool : TablePool). pool.known.serial) pools)
  pub marks : AllByRecursion (IsMarked pools) devices

-- the device, marked anew where it is one of these
abbrev pub marked : List Text → Option ℕ → Device → Device
marked paths user device = if has_path (path_in device) paths then record device { user = user } else device

abbrev pub user_among : Option ℕ → List TablePool → Option TablePool
user_among None pools = None
user_among (Some user) pools = find (λ (pool : TablePool). pool.known.serial == user) pools

-- none of the pools uses the device, or the rack doesn't have it
abbrev pub is_free : List TablePool → List DevRow → Text → Bool
is_free pools rows path = is_none (row_of path rows) || not (list_any (λ (pool : TablePool). is_used path pool.known) pools)

-- what contracts see of the two lists
pub record RosterView : Type 0 where
  pub pools : List TablePool
  pub devices : List DevRow
  -- for how many pools more there is room
  pub room : ℕ
