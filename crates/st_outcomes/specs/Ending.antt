-- What DestroyPool answers where it meets nothing or a fault on write, and what the table tells then.
use Rattle.std.specs.Prelude.{◌≡◌, true, false, [], ◌∷◌, Some, None}
use Rattle.st_units.specs.declared.cause.Cause.TheVariants.{PoolStopped}
use Rattle.st_model.specs.declared.call.Call.TheVariants.{DestroyPool}
use Rattle.st_model.specs.declared.entry.Env.TheVariants.{FaultWrite, Plain}
use Rattle.st_model.specs.declared.reply.Given.TheVariants.{Changed}
use Rattle.st_model.specs.declared.reply.Identity.TheVariants.{Pool}
use Rattle.st_model.specs.declared.state.EngineState.{EngineState}
use Rattle.st_model.specs.declared.state.PoolMode.TheVariants.{Up}
use Rattle.st_model.specs.declared.state.PoolState.{PoolState}
use Rattle.st_model.specs.Answer.{accepted, refused}
use Rattle.st_model.specs.Checks.{down}
use Rattle.st_model.specs.Flight.{all_but}
use Rattle.st_model.specs.Look.{Text, is_started}
use Rattle.st_model.specs.Parts.{pool_at, table_of}
use Rattle.st_model.specs.Step.{IsLicensed, outcome, step}
use Rattle.st_model.specs.Valid.{IsValid}
use Rattle.st_table.specs.Steps.{with_other}
use Rattle.st_beside.specs.Beside.{IsAlone}

-- An engine with this pool alone ended it, or met a fault on write in that.
pub record EndsAlone (p : PoolState) (s e : EngineState) : Type 0 where
  pub ended : step e (DestroyPool p.name) Plain ≡ (accepted (Changed true (Some (Pool p.serial))), record e { pools = [] })
      → (p.mode ≡ Up) × (outcome s (DestroyPool p.name) Plain ≡ Some (accepted (Changed true (Some (Pool p.serial))), record s { pools = all_but p.serial s.pools }))
  pub failed : (q : PoolState) → IsLicensed e (DestroyPool p.name) FaultWrite → (step e (DestroyPool p.name) FaultWrite).1.pools ≡ q ∷ [] → (p.mode ≡ Up) × (q ≡ down (DestroyPool p.name) p)

pub record DestroyOutcomes : Type 0 where
  pub unknown : (s : EngineState) (name : Text) → pool_at name s.pools ≡ None → outcome s (DestroyPool name) Plain ≡ Some (accepted (Changed false None), s)
  pub idle : (s : EngineState) (name : Text) (p : PoolState) → pool_at name s.pools ≡ Some p → is_started p.mode ≡ false
      → outcome s (DestroyPool name) Plain ≡ Some (refused PoolStopped, s)
  pub alone : (p : PoolState) (s e : EngineState) → IsAlone p s e → EndsAlone p s e

-- of a pool that stays as it is, or whose end failed, the table tells nothing new
pub record TellsNothingNew (s : EngineState) (p : PoolState) : Type 0 where
  pub same : with_other p.name p s ≡ s
  pub failed : p.mode ≡ Up → table_of (with_other p.name (down (DestroyPool p.name) p) s) ≡ table_of s

abbrev pub EndsUnseen : Type 0
EndsUnseen = (s : EngineState) (p : PoolState) → IsValid s → pool_at p.name s.pools ≡ Some p → TellsNothingNew s p
