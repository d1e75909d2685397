-- a call of the engine that meets nothing isn't answered with a fault of a device
use Rattle.std.proofs.Common.{◌≡◌, ◌==◌, List, [], ◌∷◌, Bool, true, false, cond, Option, Some, None, is_some, refl}
use Rattle.std.specs.Prelude.{unwrap_or}
use Rattle.std.specs.List.{AllByRecursion}
use Rattle.st_units.specs.declared.cause.Cause.{Cause}
use Rattle.st_units.specs.declared.cause.Cause.TheVariants.{NameInUse, NotEmpty, OutOfMemory, Worn}
use Rattle.st_model.specs.declared.call.Call.{Call}
use Rattle.st_model.specs.declared.call.Call.TheVariants.{CreatePool, DestroyPool, StopPool, StartPool, RenamePool, EngineStateReport}
use Rattle.st_model.specs.declared.entry.Env.TheVariants.{Plain}
use Rattle.st_model.specs.declared.reply.Given.TheVariants.{Changed}
use Rattle.st_model.specs.declared.reply.Reply.{Reply}
use Rattle.st_model.specs.declared.state.EngineState.{EngineState}
use Rattle.st_model.specs.declared.state.PoolMode.{PoolMode}
use Rattle.st_model.specs.declared.state.PoolMode.TheVariants.{Up, Down, Stopped, Unsettled, Incomplete}
use Rattle.st_model.specs.declared.state.PoolState.{PoolState}
use Rattle.st_model.specs.Answer.{accepted, code_of, refused, refused_where, first_answer, unless_answered}
use Rattle.st_model.specs.Checks.{not_up}
use Rattle.st_model.specs.Local.{Outcome}
use Rattle.st_model.specs.Look.{Text, is_started}
use Rattle.st_model.specs.Parts.{pool_at}
use Rattle.st_model.specs.Step.{IsLicensed, step}
use Rattle.st_model.specs.steps.DestroyPool.{destroy_answers, destroy_found, destroy_pool}
use Rattle.st_model.specs.steps.RenamePool.{rename_answers, rename_found, rename_pool}
use Rattle.st_model.specs.steps.StartPool.{pool_meant, start_found, start_in, start_pool}
use Rattle.st_model.specs.steps.StopPool.{stop_found, stop_pool}
use Rattle.st_model.proofs.Codes.{plain-no_failure}
use Rattle.st_running.specs.Calls.{runs}

abbrev IsCalm : Reply → Type 0
IsCalm r = (r.code == 27) ≡ false

abbrev IsCalmOr : Option Reply → Type 0
IsCalmOr None = Unit {0}
IsCalmOr (Some r) = IsCalm r

where_calm : (b : Bool) (cause : Cause) → (code_of cause == 27) ≡ false → IsCalmOr (refused_where b cause)
where_calm true cause h = h
where_calm false cause h = tt

first_calm : (answers : List (Option Reply)) → AllByRecursion IsCalmOr answers → IsCalmOr (first_answer answers)
first_calm [] h = tt
first_calm (None ∷ answers) h = first_calm answers h.1
first_calm (Some r ∷ answers) h = h.0

unless_calm : (o : Option Reply) (s : EngineState) (next : Reply × EngineState) → IsCalmOr o → IsCalm next.0 → IsCalm (unless_answered o s next).0
unless_calm None s next h g = g
unless_calm (Some r) s next h g = h

up_calm : (p : PoolState) (m : PoolMode) → IsCalmOr (not_up p m)
up_calm p Up = tt
up_calm p (Down call) = refl
up_calm p Stopped = refl
up_calm p (Unsettled call) = refl
up_calm p (Incomplete path) = refl

destroy : (s : EngineState) (o : Option PoolState) → IsCalm (destroy_found s o).0
destroy s None = refl
destroy s (Some p) = unless_calm (first_answer (destroy_answers p)) s _ (first_calm (destroy_answers p) (up_calm p p.mode, (where_calm _ (NotEmpty _) refl, (where_calm _ Worn refl, tt)))) refl

stop : (s : EngineState) (name : Text) (o : Option PoolState) → IsCalm (stop_found s name o).0
stop s name None = refl
stop s name (Some p) = here (is_started p.mode) _ refl
  where
    here : (b : Bool) (x : Reply × EngineState) → IsCalm x.0 → IsCalm (cond {A = Reply × EngineState} b x (accepted (Changed false None), s)).0
    here true x h = h
    here false x h = refl

same_name : (b : Bool) → IsCalmOr (cond b (Some (accepted (Changed false None))) None)
same_name true = refl
same_name false = tt

rename : (s : EngineState) (name new : Text) (o : Option PoolState) → IsCalm (rename_found s name new o).0
rename s name new None = refl
rename s name new (Some p) =
    unless_calm (first_answer (rename_answers s name new p)) s _
    (first_calm (rename_answers s name new p) (same_name _, (where_calm _ NameInUse refl, (up_calm p p.mode, (where_calm _ Worn refl, tt))))) refl

abbrev IsCalmOut : EngineState → Outcome → Type 0
IsCalmOut s o = is_some o ≡ true → IsCalm (unwrap_or o (refused OutOfMemory, s)).0

start_mode : (s : EngineState) (p : PoolState) (m : PoolMode) → IsCalmOut s (start_in s p m)
start_mode s p Up h = refl
start_mode s p (Down call) h = refl
start_mode s p Stopped h = refl
start_mode s p (Unsettled call) h = absurd cc
start_mode s p (Incomplete path) h = refl

start : (s : EngineState) (o : Option PoolState) → IsCalmOut s (start_found s o)
start s None h = refl
start s (Some p) h = start_mode s p p.mode h

pub plainly_calm : (s : EngineState) (call : Call) → runs call ≡ true → IsLicensed s call Plain → ((step s call Plain).0.code == 27) ≡ false
unfolding destroy_pool stop_pool start_pool rename_pool
plainly_calm s (CreatePool name devices) h k = plain-no_failure s (CreatePool name devices) refl
plainly_calm s (DestroyPool name) h k = destroy s (pool_at name s.pools)
plainly_calm s (StopPool name) h k = stop s name (pool_at name s.pools)
plainly_calm s (StartPool id) h k = start s (pool_meant id s) k
plainly_calm s (RenamePool name new) h k = rename s name new (pool_at name s.pools)
plainly_calm s EngineStateReport h k = plain-no_failure s EngineStateReport refl
plainly_calm s _ h k = absurd cc
