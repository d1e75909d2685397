-- What is made ready for a start.
use Rattle.std.specs.Prelude.{◌≡◌, ℕ, ◌==◌, Bool, true, false, List, Option, Some, None, option_map, slice_get}
use Rattle.std.specs.List.{list_all}
use Rattle.st_units.specs.declared.rows.DevRow.{DevRow}
use Rattle.st_model.specs.Look.{Text, row_of}
use Rattle.st_rack.specs.Device.{Path}
use Rattle.st_rack.specs.Calls.{Devices}
use Rattle.st_table.specs.Table.{TableView, named}
use Rattle.st_pool.specs.Halts.{HaltedView}
use Rattle.st_meant.specs.Tables.{AreTables}
use Rattle.st_waking.specs.declared.ready.Ready.{Ready}

abbrev pub is_sized : ℕ → Option ℕ → Bool
is_sized n None = false
is_sized n (Some m) = m == n

-- the engine knows the device, with its sectors
abbrev pub fits_in : List DevRow → Path × ℕ → Bool
fits_in rows d = is_sized d.1 (option_map (λ (row : DevRow). row.sectors) (row_of d.0 rows))

-- The tables for a start of the pool of this name, and its place among those that aren't started; the engine knows each of its devices,
-- with its sectors.
pub record IsReady {D : Type 0} (devs : D → Devices) (table : TableView) (halted : List (HaltedView D)) (name : Text) (r : Ready) : Type 0 where
  pub tables : AreTables table name r.tables
  pub pool : HaltedView D
  pub at : slice_get halted r.place ≡ Some pool
  pub named : named pool.serial table.pools ≡ Some name
  pub sizes : list_all (fits_in table.devices) (devs pool.rack) ≡ true
