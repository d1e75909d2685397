-- laws of step
use Rattle.std.specs.Prelude.{◌≡◌, List, is_some}
use Rattle.st_wants.specs.declared.want.Mode.{Mode}
use Rattle.st_wants.specs.declared.want.Mode.TheVariants.{Read}
use Rattle.st_wants.specs.declared.want.Want.TheVariants as wants
use Rattle.st_wants.specs.Names.{is_named}
use Rattle.st_wants.specs.Wants.{mode_of}
use Rattle.st_model.specs.declared.call.Call.{Call}
use Rattle.st_model.specs.declared.entry.Env.{Env}
use Rattle.st_model.specs.declared.state.EngineState.{EngineState}
use Rattle.st_model.specs.Local.{IsLocal, Leaves}
use Rattle.st_model.specs.Look.{Text}
use Rattle.st_model.specs.Parts.{Agree}
use Rattle.st_model.specs.Step.{outcome, step}
use Rattle.st_model.specs.Valid.{IsValid}
use Rattle.st_model.specs.Wanted.{want_of}

abbrev pub KeepsValidity : Type 0
KeepsValidity = (s : EngineState) (call : Call) (env : Env) → IsValid s → IsValid (step s call env).1

-- a call that wants to read changes no state
abbrev pub ReadsKeep : Type 0
ReadsKeep = (s : EngineState) (call : Call) (env : Env) → mode_of (want_of call) ≡ Read → (step s call env).1 ≡ s

-- a call whose want names pools is local to them, whatever it meets
abbrev pub Locality : Type 0
Locality = (call : Call) (env : Env) (names : List Text) (mode : Mode) → want_of call ≡ wants.Some names mode → IsLocal (is_named names) (λ s. outcome s call env)

-- What a history needs of it: from states that agree on the want the call has the same licence and the same reply, and
-- the states after it agree on the want again; all but the want's pools stays.
pub record StepsAlike (call : Call) (env : Env) (names : List Text) (mode : Mode) : Type 0 where
  pub licences : (s t : EngineState) → Agree (wants.Some names mode) s t → is_some (outcome s call env) ≡ is_some (outcome t call env)
  pub replies : (s t : EngineState) → Agree (wants.Some names mode) s t → (step s call env).0 ≡ (step t call env).0
  pub agree : (s t : EngineState) → Agree (wants.Some names mode) s t → Agree (wants.Some names mode) (step s call env).1 (step t call env).1
  pub others : (s : EngineState) → Leaves (is_named names) s (step s call env).1

abbrev pub StepLocality : Type 0
StepLocality = (call : Call) (env : Env) (names : List Text) (mode : Mode) → want_of call ≡ wants.Some names mode → StepsAlike call env names mode
