-- What a start makes of a pool that isn't started.
use Rattle.std.specs.Prelude.{◌≡◌, ◌⊎◌, false, [], ◌∷◌, map, Some}
use Rattle.st_units.specs.declared.rows.DevRow.{DevRow}
use Rattle.st_model.specs.declared.call.Call.TheVariants.{StartPool}
use Rattle.st_model.specs.declared.call.PoolId.{PoolId}
use Rattle.st_model.specs.declared.call.PoolId.TheVariants.{ByName}
use Rattle.st_model.specs.declared.entry.Env.{Env}
use Rattle.st_model.specs.declared.state.EngineState.{EngineState}
use Rattle.st_model.specs.declared.state.PoolMode.TheVariants.{Up}
use Rattle.st_model.specs.declared.state.PoolState.{PoolState}
use Rattle.st_model.specs.Look.{flight_of, is_started}
use Rattle.st_model.specs.Parts.{known, new_name}
use Rattle.st_model.specs.Step.{outcome}
use Rattle.st_model.specs.steps.StartPool.{started_reply}
use Rattle.st_startbeside.specs.Starts.{IsMeantAlone}

-- It is up, with its name or the one that a rename in flight gives it, and has the devices that it used.
pub record IsStarted (p q : PoolState) : Type 0 where
  pub mode : q.mode ≡ Up
  pub serial : q.serial ≡ p.serial
  pub devices : map (λ (row : DevRow). row.path) q.devices ≡ (known p).devices
  pub name : (q.name ≡ p.name) ⊎ (new_name (flight_of p.mode) ≡ Some q.name)

-- whatever was found of a call that makes, renames or ends it
abbrev pub StartMakes : Type 0
StartMakes = (id : PoolId) (p q : PoolState) (s e f : EngineState) (env : Env) → IsMeantAlone id p s e → is_started p.mode ≡ false
    → outcome e (StartPool (ByName p.name)) env ≡ Some (started_reply p, f) → f.pools ≡ q ∷ [] → IsStarted p q
