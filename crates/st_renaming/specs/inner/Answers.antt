-- what a rename is answered without its pool
use Rattle.std.specs.Prelude.{◌≡◌, Bool, true, false, Option, Some, None}
use Rattle.st_units.specs.declared.cause.Cause.TheVariants.{NameInUse, NoSuchPool, PoolStopped}
use Rattle.st_model.specs.declared.call.Call.{Call}
use Rattle.st_model.specs.declared.reply.Given.TheVariants.{Changed}
use Rattle.st_model.specs.declared.reply.Reply.{Reply}
use Rattle.st_model.specs.declared.state.EngineState.{EngineState}
use Rattle.st_model.specs.Answer.{accepted, refused}
use Rattle.st_model.specs.Step.{outcome}
use Rattle.st_pool.specs.declared.reply.PoolReply.{PoolReply}
use Rattle.st_pool.specs.Answered.{is_device_fault}

-- where no started pool has the name: by whether one that isn't started has it, the new name is the same, a pool holds the new one
abbrev pub answer_unstarted : Bool → Bool → Bool → Reply
answer_unstarted false same held = refused NoSuchPool
answer_unstarted true true held = accepted (Changed false None)
answer_unstarted true false true = refused NameInUse
answer_unstarted true false false = refused PoolStopped

-- where a started pool has it: none where that pool is to be asked
abbrev pub answer_early : Bool → Bool → Option Reply
answer_early true held = Some (accepted (Changed false None))
answer_early false true = Some (refused NameInUse)
answer_early false false = None

-- The call comes out with nothing changed, and no device failed.
pub record ChangesNothing (s : EngineState) (call : Call) (answer : PoolReply) : Type 0 where
  pub out : outcome s call answer.env ≡ Some (answer.reply, s)
  pub twin : answer.twin ≡ answer.reply
  pub low : answer.low ≡ false
  pub calm : is_device_fault answer.env ≡ false
