-- What a CreatePool comes to before a device is called.
use Rattle.std.specs.Prelude.{◌≡◌, List, true, Some, None}
use Rattle.st_model.specs.declared.reply.Given.TheVariants.{Created}
use Rattle.st_model.specs.declared.state.EngineState.{EngineState}
use Rattle.st_model.specs.declared.state.PoolState.{PoolState}
use Rattle.st_model.specs.Answer.{accepted}
use Rattle.st_model.specs.Look.{Text, distinct}
use Rattle.st_model.specs.steps.CreatePool.{create_answer, data_rows, new_pool, with_pool}
use Rattle.st_table.specs.Steps.{StandsFor}
use Rattle.st_creating.specs.declared.plan.Plan.{Plan}
use Rattle.st_creating.specs.declared.ready.Ready.{Ready}
use Rattle.st_creating.specs.declared.ready.Ready.TheVariants.{Answered, Planned}

-- the pool where no device fails
abbrev pub pool_made : EngineState → Text → List Text → PoolState
pool_made s name paths = new_pool s.next name (data_rows s.devices (distinct paths))

-- Nothing is against the call, and this is what its pool needs. The table tells of the state with the pool, and has an info to give.
pub record IsPlan (s : EngineState) (name : Text) (paths : List Text) (p : Plan) : Type 0 where
  pub unanswered : create_answer s name paths ≡ None
  pub name_is : p.name ≡ name
  pub serial : p.serial ≡ s.next
  pub devs : p.devs ≡ distinct paths
  pub tells : StandsFor p.table (with_pool s (pool_made s name paths))
  pub spare : p.table.spare ≡ true
  pub reply : p.reply ≡ accepted (Created true (Some (s.next, distinct paths)))
  pub twin : p.twin ≡ p.reply

-- the answer that makes no pool, or the plan of one
abbrev pub IsReady : EngineState → Text → List Text → Ready → Type 0
IsReady s name paths (Answered reply twin) = (create_answer s name paths ≡ Some reply) × (twin ≡ reply)
IsReady s name paths (Planned p) = IsPlan s name paths p
