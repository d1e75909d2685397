-- What a start meets before any device call.
use Rattle.std.specs.Prelude.{◌≡◌, Bool, true, false, None, Some, if◌then◌else◌}
use Rattle.st_units.specs.declared.cause.Cause.TheVariants.{Maintenance}
use Rattle.st_model.specs.declared.call.Call.TheVariants.{StartPool}
use Rattle.st_model.specs.declared.call.PoolId.{PoolId}
use Rattle.st_model.specs.declared.entry.Env.TheVariants.{Plain}
use Rattle.st_model.specs.declared.reply.Given.TheVariants.{Changed}
use Rattle.st_model.specs.declared.reply.Reply.{Reply}
use Rattle.st_model.specs.declared.state.EngineState.{EngineState}
use Rattle.st_model.specs.declared.state.PoolState.{PoolState}
use Rattle.st_model.specs.Answer.{accepted, refused}
use Rattle.st_model.specs.Look.{Text}
use Rattle.st_model.specs.Step.{can_start, outcome}
use Rattle.st_model.specs.steps.StartPool.{pool_meant}
use Rattle.st_pool.specs.Answered.{answered}
use Rattle.st_waking.specs.declared.met.Met.{Met}
use Rattle.st_waking.specs.declared.met.Met.TheVariants.{Answered, Found}

-- the answer where the pool that is meant is started
abbrev pub started_answer : Bool → Text → Reply
started_answer up name = if up then accepted (Changed false None) else refused (Maintenance name)

-- It is answered as the model answers it, with nothing changed; or this is the name of a pool that can be started.
abbrev pub HasMet : EngineState → PoolId → Met → Type 0
HasMet s id (Answered answer) = (reply : Reply) × (answer ≡ answered Plain reply) × (outcome s (StartPool id) Plain ≡ Some (reply, s))
HasMet s id (Found name) = (p : PoolState) × (pool_meant id s ≡ Some p) × (p.name ≡ name) × (can_start p.mode ≡ true)
