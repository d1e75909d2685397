-- what a start does to a pool beside other pools: what it does to it in an engine that knows this pool alone
use Rattle.std.specs.Prelude.{◌≡◌, true, Option, Some, None}
use Rattle.st_model.specs.declared.call.Call.{Call}
use Rattle.st_model.specs.declared.call.Call.TheVariants.{CreatePool, DestroyPool, RenamePool, StartPool}
use Rattle.st_model.specs.declared.call.PoolId.{PoolId}
use Rattle.st_model.specs.declared.call.PoolId.TheVariants.{ByName}
use Rattle.st_model.specs.declared.entry.Env.{Env}
use Rattle.st_model.specs.declared.state.EngineState.{EngineState}
use Rattle.st_model.specs.declared.state.PoolState.{PoolState}
use Rattle.st_model.specs.Checks.{sectors_of}
use Rattle.st_model.specs.Look.{Text, has_path, flight_of}
use Rattle.st_model.specs.Parts.{paths_taken}
use Rattle.st_model.specs.Step.{outcome}
use Rattle.st_model.specs.Valid.{is_there}
use Rattle.st_model.specs.steps.StartPool.{pool_meant}
use Rattle.st_beside.specs.Beside.{IsAlone, beside}

-- no call is in flight, or one that makes, renames or ends the pool
abbrev pub IsWholeFlight : Option Call → Type 0
IsWholeFlight None = Unit {0}
IsWholeFlight (Some (CreatePool name devices)) = Unit {0}
IsWholeFlight (Some (DestroyPool name)) = Unit {0}
IsWholeFlight (Some (RenamePool name new)) = Unit {0}
IsWholeFlight (Some call) = ⊥

-- The call means the pool, which is the only one of the other engine; that has the devices that the call in flight takes, with the same
-- sectors.
pub record IsMeantAlone (id : PoolId) (p : PoolState) (s e : EngineState) : Type 0 where
  pub alone : IsAlone p s e
  pub meant : pool_meant id s ≡ Some p
  pub flight : IsWholeFlight (flight_of p.mode)
  pub there : (path : Text) → has_path path (paths_taken (flight_of p.mode)) ≡ true → is_there e.devices path ≡ true
  pub sectors : (path : Text) → has_path path (paths_taken (flight_of p.mode)) ≡ true → sectors_of path e.devices ≡ sectors_of path s.devices

abbrev pub StartBeside : Type 0
StartBeside = (id : PoolId) (p : PoolState) (s e : EngineState) (env : Env) → IsMeantAlone id p s e → outcome s (StartPool id) env ≡ beside p s (outcome e (StartPool (ByName p.name)) env)
