-- no call is answered with a fault of a device where it met none
use Rattle.std.proofs.Common.{◌≡◌, ◌==◌, List, [], ◌∷◌, Bool, true, false, Option, Some, None, refl, cond, option_map}
use Rattle.std.specs.List.{AllByRecursion}
use Rattle.st_units.specs.declared.cause.Cause.{Cause}
use Rattle.st_units.specs.declared.cause.Cause.TheVariants.{EmptyDevices, NoSuchDevice, NameInUse, DeviceInUse, DeviceTooSmall, TooManyDevices, TooManyPools}
use Rattle.st_model.specs.declared.call.Call.{Call}
use Rattle.st_model.specs.declared.call.Call.TheVariants.{CreatePool, EngineStateReport}
use Rattle.st_model.specs.declared.entry.Env.TheVariants.{Plain}
use Rattle.st_model.specs.declared.reply.Reply.{Reply}
use Rattle.st_model.specs.declared.state.EngineState.{EngineState}
use Rattle.st_model.specs.declared.state.PoolState.{PoolState}
use Rattle.st_model.specs.Answer.{code_of, refused, accepted, refused_by, refused_where, first_answer, unless_answered}
use Rattle.st_model.specs.Look.{Text, first_absent, first_used, holder, pool_using}
use Rattle.st_model.specs.Step.{step, is_built}
use Rattle.st_model.specs.steps.CreatePool.{create_answers, create_answer, create_plain, answer_held, is_made}
use Rattle.st_model.specs.Checks.{in_use, first_small}
use Rattle.st_model.specs.steps.EngineStateReport.{report_plain}

abbrev IsNoFailure : Reply → Type 0
IsNoFailure r = (r.code == 27) ≡ false

abbrev IsNone-or : Option Reply → Type 0
IsNone-or None = Unit {0}
IsNone-or (Some r) = IsNoFailure r

by_where : (b : Bool) (cause : Cause) → (code_of cause == 27) ≡ false → IsNone-or (refused_where b cause)
by_where true cause h = h
by_where false cause h = tt

absent : (o : Option Text) → IsNone-or (refused_by (option_map NoSuchDevice o))
absent None = tt
absent (Some path) = refl

small : (o : Option Text) → IsNone-or (refused_by (option_map DeviceTooSmall o))
small None = tt
small (Some path) = refl

made : (b : Bool) → IsNone-or (cond b (Some (accepted (Rattle.st_model.specs.declared.reply.Given.TheVariants.Created false None))) (Some (refused NameInUse)))
made true = refl
made false = refl

held : (name : Text) (paths : List Text) (o : Option PoolState) → IsNone-or (answer_held name paths o)
held name paths None = tt
held name paths (Some pool) = made (is_made name paths pool)

using : (path : Text) (o : Option PoolState) → IsNone-or (refused_by (option_map (λ (pool : PoolState). DeviceInUse path pool.name) o))
using path None = tt
using path (Some pool) = refl

used : (pools : List PoolState) (o : Option Text) → IsNone-or (refused_by (in_use pools o))
used pools None = tt
used pools (Some path) = using path (pool_using path pools)

first : (answers : List (Option Reply)) → AllByRecursion IsNone-or answers → IsNone-or (first_answer answers)
first [] h = tt
first (None ∷ answers) h = first answers h.1
first (Some r ∷ answers) h = h.0

unless : (o : Option Reply) (s : EngineState) (next : Reply × EngineState) → IsNone-or o → IsNoFailure next.0 → IsNoFailure (unless_answered o s next).0
unless None s next h g = g
unless (Some r) s next h g = h

create : (s : EngineState) (name : Text) (paths : List Text) → IsNoFailure (create_plain s name paths).0
unfolding create_plain create_answer
create s name paths =
    unless (create_answer s name paths) s _
    (first (create_answers s name paths) (
      by_where _ EmptyDevices refl,
      (
        absent (first_absent paths s.devices),
        (
          held name paths (holder name s.pools),
          (used s.pools (first_used paths s.pools), (small (first_small paths s.devices), (by_where _ TooManyDevices refl, (by_where _ TooManyPools refl, tt)))),
        ),
      ),
    ))
    refl

report : (s : EngineState) → IsNoFailure (report_plain s).0
unfolding report_plain
report s = refl

pub plain-no_failure : (s : EngineState) (call : Call) → is_built call ≡ true → ((step s call Plain).0.code == 27) ≡ false
plain-no_failure s (CreatePool name devices) h = create s name devices
plain-no_failure s EngineStateReport h = report s
plain-no_failure s _ h = absurd cc
