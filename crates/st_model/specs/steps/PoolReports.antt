-- PoolReports: what is known of several pools at one place of the history, with nothing changed
use Rattle.std.specs.Prelude.{List, [], ◌∷◌, Bool, map, Option, Some, None, unwrap_or, if◌then◌else◌}
use Rattle.st_units.specs.declared.cause.Cause.TheVariants.{NoSuchPool, PoolStopped}
use Rattle.st_model.specs.declared.info.PoolInfo.{PoolInfo}
use Rattle.st_model.specs.declared.reply.Given.TheVariants.{Pools}
use Rattle.st_model.specs.declared.reply.Reply.{Reply}
use Rattle.st_model.specs.declared.state.EngineState.{EngineState}
use Rattle.st_model.specs.declared.state.PoolState.{PoolState}
use Rattle.st_model.specs.Answer.{accepted, refused, first_answer}
use Rattle.st_model.specs.Checks.{not_up}
use Rattle.st_model.specs.Lifted.{is_known}
use Rattle.st_model.specs.Look.{Text, distinct}
use Rattle.st_model.specs.Parts.{own}
use Rattle.st_model.specs.Shown.{pool_info}

-- what is seen of the pools of these names: whether one is known, and the started one
abbrev pub seen : List Text → EngineState → List (Bool × Option PoolState)
seen names s = map (λ n. (is_known n s, own n s)) names

-- no pool, a pool that isn't started, or one that is down
abbrev pub refusal : Bool → Option PoolState → Option Reply
refusal known None = Some (refused (if known then PoolStopped else NoSuchPool))
refusal known (Some p) = not_up p p.mode

abbrev pub refusals : List (Bool × Option PoolState) → List (Option Reply)
refusals = map (λ (pool : Bool × Option PoolState). refusal pool.0 pool.1)

abbrev pub infos_seen : List (Bool × Option PoolState) → List PoolInfo
infos_seen [] = []
infos_seen ((known, None) ∷ pools) = infos_seen pools
infos_seen ((known, Some p) ∷ pools) = pool_info p ∷ infos_seen pools

-- the refusal of the first that is refused, or all reports in the list's order
abbrev pub reports : List (Bool × Option PoolState) → Reply
reports pools = unwrap_or (first_answer (refusals pools)) (accepted (Pools (infos_seen pools)))

unfoldable pub pool_reports : List Text → EngineState → Reply × EngineState
pool_reports pools s = (reports (seen (distinct pools) s), s)
