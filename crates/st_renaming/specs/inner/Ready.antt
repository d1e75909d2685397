-- what a rename is made ready with before its pool is asked
use Rattle.std.specs.Prelude.{◌≡◌, true, false, bytes_eq, Some, None}
use Rattle.st_model.specs.declared.call.Call.{Call}
use Rattle.st_model.specs.declared.call.Call.TheVariants.{RenamePool}
use Rattle.st_model.specs.declared.entry.Env.{Env}
use Rattle.st_model.specs.declared.entry.Env.TheVariants.{FaultWrite, Plain}
use Rattle.st_model.specs.declared.state.EngineState.{EngineState}
use Rattle.st_model.specs.declared.state.PoolMode.TheVariants.{Up}
use Rattle.st_model.specs.declared.state.PoolState.{PoolState}
use Rattle.st_model.specs.declared.state.TableState.{TableState}
use Rattle.st_model.specs.Checks.{down}
use Rattle.st_model.specs.Look.{Text, holder, is_started}
use Rattle.st_model.specs.Parts.{pool_at, table_of}
use Rattle.st_model.specs.Step.{step}
use Rattle.st_model.specs.Valid.{IsValid}
use Rattle.st_model.specs.steps.RenamePool.{renamed}
use Rattle.st_table.specs.Stands.{Stands}
use Rattle.st_table.specs.Steps.{StandsFor, with_other}
use Rattle.st_table.specs.Table.{TableView}
use Rattle.st_renaming.specs.declared.ready.Plan.{Plan}

-- The table tells of the state after the call met this, if that state has this pool in the place of the one of that name; it has an info
-- to give.
pub record Tells (s : EngineState) (call : Call) (env : Env) (name : Text) (change : PoolState → PoolState) (table : TableView) (state : TableState) : Type 0 where
  pub spare : table.spare ≡ true
  pub state_is : state ≡ table_of (step s call env).1
  pub tells : (p : PoolState) → pool_at name s.pools ≡ Some p → p.mode ≡ Up → IsValid (with_other name (change p) s) → Stands table (table_of (with_other name (change p) s))

abbrev pub TellsRenamed : EngineState → Text → Text → TableView → TableState → Type 0
TellsRenamed s name new table state = Tells s (RenamePool name new) Plain name (renamed new) table state

-- a device failed: the pool holds the new name besides its own
abbrev pub TellsDown : EngineState → Text → Text → TableView → TableState → Type 0
TellsDown s name new table state = Tells s (RenamePool name new) FaultWrite name (down (RenamePool name new)) table state

-- The table tells of the valid state, in which a started pool has this name.
pub record IsFor (s : EngineState) (table : TableView) (name : Text) : Type 0 where
  pub valid : IsValid s
  pub stands : StandsFor table s
  pub pool : PoolState
  pub here : pool_at name s.pools ≡ Some pool
  pub started : is_started pool.mode ≡ true

-- The pool is to be asked for the new name, which is another and which no pool holds.
pub record IsPlan (s : EngineState) (name new : Text) (plan : Plan) : Type 0 where
  pub given : plan.new ≡ new
  pub other : bytes_eq name new ≡ false
  pub free : holder new s.pools ≡ None
  pub done : TellsRenamed s name new plan.done.table plan.done.state.value
  pub down : TellsDown s name new plan.down.table plan.down.state.value
