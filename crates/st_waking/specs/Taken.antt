-- What is known of the pool that is to be started, and of the table after.
use Rattle.std.specs.Prelude.{◌≡◌, Bool, true, false, List, Some, slice_get}
use Rattle.std.specs.List.{list_all}
use Rattle.st_model.specs.declared.call.PoolId.{PoolId}
use Rattle.st_model.specs.declared.state.EngineState.{EngineState}
use Rattle.st_model.specs.declared.state.PoolState.{PoolState}
use Rattle.st_model.specs.declared.state.TableState.{TableState}
use Rattle.st_model.specs.Step.{can_start}
use Rattle.st_model.specs.steps.StartPool.{pool_meant}
use Rattle.st_rack.specs.Calls.{Devices}
use Rattle.st_table.specs.Stands.{Stands}
use Rattle.st_table.specs.Table.{TableView}
use Rattle.st_pool.specs.Halts.{HaltedView}
use Rattle.st_meant.specs.declared.tables.Tables.{Tables}
use Rattle.st_meant.specs.Tables.{TellOf}
use Rattle.st_waking.specs.declared.ready.Ready.{Ready}
use Rattle.st_waking.specs.Readies.{fits_in}

-- The start means this pool, which can be started; at the place that was found is the halted pool of its serial, and the tables tell of the
-- states after the start.
pub record IsSet {D : Type 0} (devs : D → Devices) (s : EngineState) (id : PoolId) (halted : List (HaltedView D)) (r : Ready) (p : PoolState) (h : HaltedView D) : Type 0 where
  pub meant : pool_meant id s ≡ Some p
  pub can : can_start p.mode ≡ true
  pub at : slice_get halted r.place ≡ Some h
  pub serial : h.serial ≡ p.serial
  pub sizes : list_all (fits_in s.devices) (devs h.rack) ≡ true
  pub tell : TellOf s p r.tables

-- One of the tables, which has an info to give, tells of this: the one for the same name, or the one for the new name.
abbrev pub TellsNow : Bool → TableState → Tables → Type 0
TellsNow true t tables = Stands tables.started t × (tables.started.spare ≡ true)
TellsNow false t tables = (table : TableView) × (tables.renamed ≡ Some table) × Stands table t × (table.spare ≡ true)
