-- what a start does to a pool that an engine knows alone
use Rattle.std.specs.Prelude.{◌≡◌, ℕ, ◌==◌, true, false, List, [], ◌∷◌, bytes_eq, Some, None}
use Rattle.st_limits.specs.declared.TheConstants.{MAX_COMMITS}
use Rattle.st_units.specs.declared.rows.DevRow.{DevRow}
use Rattle.st_units.specs.declared.cause.Cause.TheVariants.{DeviceFault, PoolVanished}
use Rattle.st_model.specs.declared.call.Call.TheVariants.{CreatePool, DestroyPool, RenamePool, StartPool}
use Rattle.st_model.specs.declared.call.PoolId.TheVariants.{ByName}
use Rattle.st_model.specs.declared.entry.Env.TheVariants.{Plain, FaultWrite, After, Before}
use Rattle.st_model.specs.declared.state.EngineState.{EngineState}
use Rattle.st_model.specs.declared.state.PoolMode.TheVariants.{Up, Stopped, Unsettled}
use Rattle.st_model.specs.declared.state.PoolState.{PoolState}
use Rattle.st_model.specs.Answer.{refused}
use Rattle.st_model.specs.Checks.{cooled, settled}
use Rattle.st_model.specs.Look.{Text, distinct}
use Rattle.st_model.specs.Step.{can_start, outcome}
use Rattle.st_model.specs.steps.CreatePool.{create_answer, data_rows, new_pool}
use Rattle.st_model.specs.steps.RenamePool.{renamed}
use Rattle.st_model.specs.steps.StartPool.{started_reply}

-- an engine that knows this pool alone
abbrev pub only : PoolState → List DevRow → ℕ → EngineState
only pool devices next = record { pools = pool ∷ []; devices = devices; next = next }

-- and one that knows none
abbrev pub none_in : List DevRow → ℕ → EngineState
none_in devices next = record { pools = []; devices = devices; next = next }

-- the pool, started
abbrev pub up : PoolState → PoolState
up pool = record pool { mode = Up }

-- What is made of it: a stopped pool starts, also where nothing of a rename or an end was found, and after a rename that was found done; a
-- pool whose making left nothing, or whose end is found done, is known no more; one whose making is found done starts as the call makes it. A
-- fault changes nothing.
pub record StartsAlone : Type 0 where
  pub stopped : (pool : PoolState) (devices : List DevRow) (next : ℕ) → pool.mode ≡ Stopped
      → outcome (only pool devices next) (StartPool (ByName pool.name)) Plain ≡ Some (started_reply pool, only (cooled Up pool) devices next)
  pub rename_before : (pool : PoolState) (devices : List DevRow) (next : ℕ) (name new : Text) → pool.mode ≡ Unsettled (RenamePool name new)
      → outcome (only pool devices next) (StartPool (ByName pool.name)) (Before []) ≡ Some (started_reply pool, only (settled pool) devices next)
  pub end_before : (pool : PoolState) (devices : List DevRow) (next : ℕ) (name : Text) → pool.mode ≡ Unsettled (DestroyPool name)
      → outcome (only pool devices next) (StartPool (ByName pool.name)) (Before []) ≡ Some (started_reply pool, only (settled pool) devices next)
  pub make_before : (pool : PoolState) (devices : List DevRow) (next : ℕ) (name : Text) (paths : List Text) → pool.mode ≡ Unsettled (CreatePool name paths)
      → outcome (only pool devices next) (StartPool (ByName pool.name)) (Before []) ≡ Some (refused PoolVanished, none_in devices next)
  pub rename_after : (pool : PoolState) (devices : List DevRow) (next : ℕ) (new : Text) → pool.mode ≡ Unsettled (RenamePool pool.name new) → bytes_eq pool.name new ≡ false → (pool.commits == MAX_COMMITS) ≡ false
      → outcome (only pool devices next) (StartPool (ByName pool.name)) After ≡ Some (started_reply pool, only (settled (renamed new (up pool))) devices next)
  pub end_after : (pool : PoolState) (devices : List DevRow) (next : ℕ) → pool.mode ≡ Unsettled (DestroyPool pool.name) → pool.filesystems ≡ [] → (pool.commits == MAX_COMMITS) ≡ false
      → outcome (only pool devices next) (StartPool (ByName pool.name)) After ≡ Some (refused PoolVanished, none_in devices next)
  pub make_after : (pool : PoolState) (devices : List DevRow) (next : ℕ) (name : Text) (paths : List Text) → pool.mode ≡ Unsettled (CreatePool name paths) → create_answer (none_in devices pool.serial) name paths ≡ None
      → outcome (only pool devices next) (StartPool (ByName pool.name)) After ≡ Some (started_reply pool, only (settled (new_pool pool.serial name (data_rows devices (distinct paths)))) devices next)
  pub fails : (pool : PoolState) (devices : List DevRow) (next : ℕ) → can_start pool.mode ≡ true
      → outcome (only pool devices next) (StartPool (ByName pool.name)) FaultWrite ≡ Some (refused DeviceFault, only pool devices next)
