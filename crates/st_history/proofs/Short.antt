-- which calls are never short of space
use Rattle.std.proofs.Common.{◌≡◌, true}
use Rattle.st_model.specs.declared.call.Call.{Call}
use Rattle.st_model.specs.declared.call.Call.TheVariants.{FsWrite}
use Rattle.st_model.specs.declared.state.EngineState.{EngineState}
use Rattle.st_model.specs.Step.{is_built}
use Rattle.st_history.specs.History.{IsShort}

-- a call that is built is no write, so it is never short of space
pub built-not_short : (s : EngineState) (call : Call) → is_built call ≡ true → IsShort s call → ⊥
built-not_short s (FsWrite pool name sector payload) h short = absurd cc
built-not_short s _ h short = short
