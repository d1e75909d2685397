-- step is local, as histories need it
use Rattle.std.proofs.Common.{◌≡◌, Bool, Some, None, is_some, unwrap_or, refl}
use Rattle.st_units.specs.declared.cause.Cause.TheVariants.{OutOfMemory}
use Rattle.st_wants.specs.Names.{is_named}
use Rattle.st_model.specs.declared.reply.Reply.{Reply}
use Rattle.st_model.specs.declared.state.EngineState.{EngineState}
use Rattle.st_model.specs.Answer.{refused}
use Rattle.st_model.specs.Look.{Text}
use Rattle.st_model.specs.Parts.{AgreeOn}
use Rattle.st_model.specs.Laws.{StepLocality}
use Rattle.st_model.specs.Local.{Outcome, AreAlike, Leaves, LeavesIfAny}
use Rattle.st_model.specs.Step.{outcome}
use Rattle.st_model.proofs.LocalCalls.{outcome-local}

same_licence : (is_in : Text → Bool) (a b : Outcome) → AreAlike is_in a b → is_some a ≡ is_some b
same_licence is_in None None h = refl
same_licence is_in None (Some b) h = absurd h
same_licence is_in (Some a) None h = absurd h
same_licence is_in (Some a) (Some b) h = refl

same_reply : (is_in : Text → Bool) (a b : Outcome) (r : Reply) (s t : EngineState) → AreAlike is_in a b → (unwrap_or a (r, s)).0 ≡ (unwrap_or b (r, t)).0
same_reply is_in None None r s t h = refl
same_reply is_in None (Some b) r s t h = absurd h
same_reply is_in (Some a) None r s t h = absurd h
same_reply is_in (Some a) (Some b) r s t h = h.0

same_after : (is_in : Text → Bool) (a b : Outcome) (r : Reply) (s t : EngineState) → AreAlike is_in a b → AgreeOn is_in s t → AgreeOn is_in (unwrap_or a (r, s)).1 (unwrap_or b (r, t)).1
same_after is_in None None r s t h g = g
same_after is_in None (Some b) r s t h g = absurd h
same_after is_in (Some a) None r s t h g = absurd h
same_after is_in (Some a) (Some b) r s t h g = h.1

others_left : (is_in : Text → Bool) (a : Outcome) (r : Reply) (s : EngineState) → LeavesIfAny is_in s a → Leaves is_in s (unwrap_or a (r, s)).1
others_left is_in None r s h = record { pools = λ n e. refl; cells = λ n e. refl; table = refl }
others_left is_in (Some a) r s h = h

pub step-local : StepLocality
step-local call env names mode h =
    let local = outcome-local call env names mode h in
    record {
      licences = λ s t a. same_licence (is_named names) (outcome s call env) (outcome t call env) (local.alike s t a);
      replies = λ s t a. same_reply (is_named names) (outcome s call env) (outcome t call env) (refused OutOfMemory) s t (local.alike s t a);
      agree = λ s t a. same_after (is_named names) (outcome s call env) (outcome t call env) (refused OutOfMemory) s t (local.alike s t a) a;
      others = λ s. others_left (is_named names) (outcome s call env) (refused OutOfMemory) s (local.others s);
    }
