-- The table after each thing that a start may find.
use Rattle.std.specs.Prelude.{◌≡◌, true, false, List, Some, IfSome}
use Rattle.std.specs.List.{AllByRecursion}
use Rattle.st_model.specs.declared.state.EngineState.{EngineState}
use Rattle.st_model.specs.declared.state.PoolState.{PoolState}
use Rattle.st_model.specs.Flight.{all_but}
use Rattle.st_model.specs.Look.{Text}
use Rattle.st_model.specs.Parts.{pool_at}
use Rattle.st_model.specs.Step.{can_start}
use Rattle.st_model.specs.Valid.{IsValid}
use Rattle.st_table.specs.declared.halted.HaltedInfo.{HaltedInfo}
use Rattle.st_table.specs.Steps.{StandsFor, with_other}
use Rattle.st_table.specs.Table.{IsFree, TablePool, TableView, changed, is_taken, pool_named, with_instead, without, woken}
use Rattle.st_meant.specs.declared.tables.Tables.{Tables}
use Rattle.st_meant.specs.Started.{IsStarted}

-- The pool of this name isn't started; no other has its names or uses its devices.
pub record MayStart (view : TableView) (name : Text) : Type 0 where
  pub pool : TablePool
  pub info : HaltedInfo
  pub at : pool_named name view.pools ≡ Some pool
  pub halted : pool.halted ≡ Some info
  pub own : is_taken name (without name view.pools) ≡ false
  pub new : IfSome info.new (λ new. is_taken new (without name view.pools) ≡ false)
  pub free : AllByRecursion (IsFree (without name view.pools) view.devices) info.devs

-- the table in which the pool is started, with an info to give
abbrev pub started_table : TableView → Text → Text → List Text → TablePool → TableView
started_table view name new devices pool = record (changed view (with_instead name (woken new devices pool) view.pools)) { spare = true }

-- These are the tables: the pool started, under its name or the one that the rename in flight gives it, and known no more.
pub record AreTables (view : TableView) (name : Text) (t : Tables) : Type 0 where
  pub started : (pool : TablePool) (info : HaltedInfo) → pool_named name view.pools ≡ Some pool → pool.halted ≡ Some info → t.started ≡ started_table view name name info.devs pool
  pub renamed : (pool : TablePool) (info : HaltedInfo) (new : Text) → pool_named name view.pools ≡ Some pool → pool.halted ≡ Some info → info.new ≡ Some new → t.renamed ≡ Some (started_table view name new info.devs pool)
  pub gone : t.gone ≡ record (changed view (without name view.pools)) { spare = true }

-- A pool that can be started may be started in the table.
abbrev pub CanMay : Type 0
CanMay = (view : TableView) (s : EngineState) (p : PoolState) → IsValid s → StandsFor view s → pool_at p.name s.pools ≡ Some p → can_start p.mode ≡ true → MayStart view p.name

-- Each table has an info to give, and tells of the state for which it was made.
pub record TellOf (s : EngineState) (p : PoolState) (t : Tables) : Type 0 where
  pub started_spare : t.started.spare ≡ true
  pub started : (q : PoolState) → IsStarted p q → q.name ≡ p.name → IsValid (with_other p.name q s) → StandsFor t.started (with_other p.name q s)
  pub renamed : (q : PoolState) → IsStarted p q → (q.name ≡ p.name → ⊥) → IsValid (with_other p.name q s) → (table : TableView) × (t.renamed ≡ Some table) × (table.spare ≡ true) × StandsFor table (with_other p.name q s)
  pub gone_spare : t.gone.spare ≡ true
  pub gone : StandsFor t.gone (record s { pools = all_but p.serial s.pools })

abbrev pub TablesTell : Type 0
TablesTell = (view : TableView) (s : EngineState) (p : PoolState) (t : Tables) → IsValid s → StandsFor view s → pool_at p.name s.pools ≡ Some p → can_start p.mode ≡ true → AreTables view p.name t → TellOf s p t
