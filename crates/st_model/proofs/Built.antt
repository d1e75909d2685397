-- a call that the engine runs may meet nothing, and may be refused memory, in every state
use Rattle.std.proofs.Common.{◌≡◌, true, refl}
use Rattle.st_model.specs.declared.call.Call.{Call}
use Rattle.st_model.specs.declared.call.Call.TheVariants.{CreatePool, EngineStateReport}
use Rattle.st_model.specs.declared.entry.Env.TheVariants.{Plain, NoMem}
use Rattle.st_model.specs.declared.state.EngineState.{EngineState}
use Rattle.st_model.specs.Step.{IsLicensed, is_built}

pub record MayRun (s : EngineState) (call : Call) : Type 0 where
  pub plain : IsLicensed s call Plain
  pub no_memory : IsLicensed s call NoMem

pub built-MayRun : (s : EngineState) (call : Call) → is_built call ≡ true → MayRun s call
built-MayRun s (CreatePool name devices) h = record { plain = refl; no_memory = refl }
built-MayRun s EngineStateReport h = record { plain = refl; no_memory = refl }
built-MayRun s _ h = absurd cc
