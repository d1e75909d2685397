-- a CreatePool whose write failed: it can only where the call would have made the pool
use Rattle.std.proofs.Common.{◌≡◌, Bool, true, false, cond, List, Option, Some, None, refl, sym, ◌∙◌}
use Rattle.st_units.specs.declared.cause.Cause.TheVariants.{DeviceFault, EmptyDevices, NameInUse, OutOfMemory, TooManyDevices, TooManyPools}
use Rattle.st_model.specs.declared.call.Call.TheVariants.{CreatePool}
use Rattle.st_model.specs.declared.entry.Env.TheVariants.{FaultWrite}
use Rattle.st_model.specs.declared.reply.Reply.{Reply}
use Rattle.st_model.specs.declared.state.EngineState.{EngineState}
use Rattle.st_model.specs.Answer.{accepted, refused}
use Rattle.st_model.specs.declared.reply.Given.TheVariants.{Created}
use Rattle.st_model.specs.declared.state.PoolState.{PoolState}
use Rattle.st_model.specs.Look.{Text, distinct}
use Rattle.st_model.specs.Step.{is_changed, step}
use Rattle.st_model.specs.steps.CreatePool.{answer_held, broken_pool, create_answer, create_answers, create_plain, is_made, with_pool}
use Rattle.st_model.proofs.Answers0.{IsNoChange, changed-unanswered, no_change_by, no_change_where}

no_change_held : (name : Text) (paths : List Text) (o : Option PoolState) → IsNoChange (answer_held name paths o)
no_change_held name paths None = tt
no_change_held name paths (Some p) = here (is_made name paths p)
  where
    here : (b : Bool) → IsNoChange (cond b (Some (accepted (Created false None))) (Some (refused NameInUse)))
    here true = refl
    here false = refl

create-wrote : (s : EngineState) (name : Text) (paths : List Text) → is_changed (Some (create_plain s name paths)) ≡ true → create_answer s name paths ≡ None
unfolding create_plain create_answer
create-wrote s name paths h =
    changed-unanswered (create_answers s name paths) s _
    (no_change_where _ EmptyDevices, (no_change_by _, (no_change_held name paths _, (no_change_by _, (no_change_by _, (no_change_where _ TooManyDevices, (no_change_where _ TooManyPools, tt))))))) h

made_changed : (s : EngineState) (name : Text) (paths : List Text) → create_answer s name paths ≡ None → is_changed (Some (create_plain s name paths)) ≡ true
unfolding create_plain
made_changed s name paths h = rw h refl

pub unanswered_so : (s : EngineState) (name : Text) (paths : List Text) → create_answer s name paths ≡ None
    → step s (CreatePool name paths) FaultWrite ≡ (refused DeviceFault, with_pool s (broken_pool s.next name (distinct paths)))
unanswered_so s name paths h = rw (made_changed s name paths h) refl

not_none : (s : EngineState) (name : Text) (paths : List Text) (r : Reply) → create_answer s name paths ≡ Some r → is_changed (Some (create_plain s name paths)) ≡ false
not_none s name paths r h = here (is_changed (Some (create_plain s name paths))) refl
  where
    here : (b : Bool) → is_changed (Some (create_plain s name paths)) ≡ b → b ≡ false
    here false e = refl
    here true e = (let none = create-wrote s name paths e in let bad : Some r ≡ None = sym h ∙ none in absurd cc)

pub answered_so : (s : EngineState) (name : Text) (paths : List Text) (r : Reply) → create_answer s name paths ≡ Some r → step s (CreatePool name paths) FaultWrite ≡ (refused OutOfMemory, s)
answered_so s name paths r h = rw (not_none s name paths r h) refl
