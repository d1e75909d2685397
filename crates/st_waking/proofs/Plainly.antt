-- A start that changes nothing.
use Rattle.std.proofs.Common.{◌≡◌, ℕ, List, refl, sym, subst}
use Rattle.st_units.specs.declared.cause.Cause.TheVariants.{OutOfMemory}
use Rattle.st_model.specs.declared.call.Call.TheVariants.{StartPool}
use Rattle.st_model.specs.declared.call.PoolId.{PoolId}
use Rattle.st_model.specs.declared.entry.Env.TheVariants.{NoMem}
use Rattle.st_model.specs.declared.state.EngineState.{EngineState}
use Rattle.st_model.specs.Answer.{refused}
use Rattle.st_rack.specs.Device.{State}
use Rattle.st_rack.specs.Calls.{Devices}
use Rattle.st_pool.specs.declared.reply.PoolReply.{PoolReply}
use Rattle.st_pool.specs.Answered.{answered}
use Rattle.st_pool.specs.View.{PoolView}
use Rattle.st_board.specs.Ran.{AreAll}
use Rattle.st_board.specs.View.{BoardView}
use Rattle.st_ran.specs.One.{NoneRuns}
use Rattle.st_waking.specs.declared.met.Met.TheVariants.{Answered}
use Rattle.st_waking.specs.Met.{HasMet}

module _ {D : Type 0} (devs : D → Devices) (moment : D → ℕ) (state_at : D → ℕ → State) (faults : D → ℕ) (s : EngineState) (id : PoolId) (cells : List (PoolView D)) (b : BoardView D)
    (all : AreAll devs moment state_at faults s cells b) (a : PoolReply) where
  -- it is answered as the model answers it
  pub met_so : HasMet s id (Answered a) → NoneRuns devs moment state_at faults s (StartPool id) a cells b
  met_so one = subst (λ (x : PoolReply). NoneRuns devs moment state_at faults s (StartPool id) x cells b) (sym one.1) (record { all = all; out = one.2; twin = refl; low = refl; calm = refl })

  -- memory was refused
  pub want_so : a ≡ answered NoMem (refused OutOfMemory) → NoneRuns devs moment state_at faults s (StartPool id) a cells b
  want_so is = subst (λ (x : PoolReply). NoneRuns devs moment state_at faults s (StartPool id) x cells b) (sym is) (record { all = all; out = refl; twin = refl; low = refl; calm = refl })
