-- What a table tells of the pool of a name, by whether a started pool has it.
use Rattle.std.specs.Prelude.{◌≡◌, true, false, Some, None}
use Rattle.st_model.specs.declared.state.EngineState.{EngineState}
use Rattle.st_model.specs.declared.state.PoolState.{PoolState}
use Rattle.st_model.specs.Look.{Text, is_started}
use Rattle.st_model.specs.Parts.{own, pool_at}
use Rattle.st_model.specs.Valid.{IsValid}
use Rattle.st_table.specs.Steps.{StandsFor, kept}
use Rattle.st_table.specs.Table.{TableView, knows, pool_named}

-- no started pool has the name: the table knows none, or one that isn't started
pub record UnstartedTold (view : TableView) (s : EngineState) (name : Text) : Type 0 where
  pub unknown : knows name view.pools ≡ false → pool_at name s.pools ≡ None
  pub idle : knows name view.pools ≡ true → (p : PoolState) × (pool_at name s.pools ≡ Some p) × (is_started p.mode ≡ false)

-- a started pool has it
pub record StartedTold (view : TableView) (s : EngineState) (p : PoolState) : Type 0 where
  pub here : pool_at p.name s.pools ≡ Some p
  pub started : is_started p.mode ≡ true
  pub known : knows p.name view.pools ≡ true
  pub keeps : pool_named p.name view.pools ≡ Some (kept p)

abbrev pub TellsUnstarted : Type 0
TellsUnstarted = (view : TableView) (s : EngineState) (name : Text) → IsValid s → StandsFor view s → own name s ≡ None → UnstartedTold view s name

abbrev pub TellsStarted : Type 0
TellsStarted = (view : TableView) (s : EngineState) (p : PoolState) → IsValid s → StandsFor view s → own p.name s ≡ Some p → StartedTold view s p
