-- what a call that takes one whole pool does beside other pools: what it does to an engine that knows this pool alone
use Rattle.std.specs.Prelude.{◌≡◌, ◌⊎◌, ℕ, true, List, [], ◌∷◌, Option, Some, None, bytes_eq}
use Rattle.st_model.specs.declared.call.Call.TheVariants.{CreatePool, DestroyPool, RenamePool, StopPool}
use Rattle.st_model.specs.declared.entry.Env.{Env}
use Rattle.st_model.specs.declared.state.EngineState.{EngineState}
use Rattle.st_model.specs.declared.state.PoolState.{PoolState}
use Rattle.st_model.specs.Flight.{all_but}
use Rattle.st_model.specs.Local.{Outcome}
use Rattle.st_model.specs.Checks.{sectors_of}
use Rattle.st_model.specs.Look.{Text, distinct, has_path, holder}
use Rattle.st_model.specs.Parts.{pool_at}
use Rattle.st_model.specs.Step.{outcome}
use Rattle.st_model.specs.Valid.{IsValid, is_there}
use Rattle.st_model.specs.steps.CreatePool.{create_answer, with_pool}
use Rattle.st_table.specs.Steps.{with_other}

-- the state with what the pool has become in its place, or without it
abbrev pub put_back : PoolState → List PoolState → EngineState → EngineState
put_back p [] s = record s { pools = all_but p.serial s.pools }
put_back p (q ∷ qs) s = with_other p.name q s

-- what comes out of a call on the pool alone, beside the others
abbrev pub beside : PoolState → EngineState → Outcome → Outcome
beside p s None = None
beside p s (Some after) = Some (after.0, put_back p after.1.pools s)

-- The pool is one of the state's, and the only one of the other engine.
pub record IsAlone (p : PoolState) (s e : EngineState) : Type 0 where
  pub valid : IsValid s
  pub here : pool_at p.name s.pools ≡ Some p
  pub alone : e.pools ≡ p ∷ []

abbrev pub DestroyBeside : Type 0
DestroyBeside = (p : PoolState) (s e : EngineState) (env : Env) → IsAlone p s e → outcome s (DestroyPool p.name) env ≡ beside p s (outcome e (DestroyPool p.name) env)

abbrev pub StopBeside : Type 0
StopBeside = (p : PoolState) (s e : EngineState) (env : Env) → IsAlone p s e → outcome s (StopPool p.name) env ≡ beside p s (outcome e (StopPool p.name) env)

-- where no pool holds the new name, but for one that it is the own name of
abbrev pub RenameBeside : Type 0
RenameBeside = (p : PoolState) (s e : EngineState) (new : Text) (env : Env) → IsAlone p s e → (bytes_eq p.name new ≡ true) ⊎ (holder new s.pools ≡ None)
    → outcome s (RenamePool p.name new) env ≡ beside p s (outcome e (RenamePool p.name new) env)

-- the state with the pool that an engine without any has made
abbrev pub add_made : List PoolState → EngineState → EngineState
add_made [] s = s
add_made (q ∷ qs) s = with_pool s q

abbrev pub beside_made : EngineState → Outcome → Outcome
beside_made s None = None
beside_made s (Some after) = Some (after.0, add_made after.1.pools s)

-- The other engine knows no pool, gives the same serial next, and has each of these devices with the same sectors.
pub record IsBare (paths : List Text) (s e : EngineState) : Type 0 where
  pub none : e.pools ≡ []
  pub next : e.next ≡ s.next
  pub there : (path : Text) → has_path path paths ≡ true → is_there e.devices path ≡ true
  pub sectors : (path : Text) → has_path path paths ≡ true → sectors_of path e.devices ≡ sectors_of path s.devices

-- where nothing is against it
abbrev pub CreateBeside : Type 0
CreateBeside = (s e : EngineState) (name : Text) (paths : List Text) (env : Env) → create_answer s name paths ≡ None → IsBare paths s e
    → outcome s (CreatePool name paths) env ≡ beside_made s (outcome e (CreatePool name (distinct paths)) env)
