use Rattle.std.proofs.Common.{inl, inr, refl, ap, sym, subst, ◌∙◌, ◌++◌, ◌∷◌, [], List}
use Rattle.std.specs.Prelude.{min, ◌-◌, ◌^◌}
use Rattle.st_model.specs.declared.call.Call.{Call}
use Rattle.st_model.specs.Wanted.{want_of}
use Rattle.st_history.specs.declared.log.Event.TheVariants.{Arrive}
use Rattle.st_lock.specs.Seats.{plain, state_at}
use Rattle.st_running.specs.Part.{faults_out}
use Rattle.st_engine.proofs.Held.{shows_so}
use Rattle.st_engine.proofs.Told.{served}
use Rattle.st_engine.proofs.engine.Engine.call.Goals as goal

pub returns-in_default-clause-called : goal.returns-in_default-clause-called
returns-in_default-clause-called g c = inr (record { stayed = inl refl; refused_is = c.refused.ensures.reply })

pub finish-requires-clause-shown : goal.finish-requires-clause-shown
finish-requires-clause-shown g c = λ whole.
    let part = c.wait-running.result.guard.part in
    shows_so (want_of c.wait-running.result.job.call) (state_at c.wait-running.new.seat) part.infos.items part.table_info (c.wait-running.ensures.shown whole)

pub returns-in-Err-clause-called : goal.returns-in-Err-clause-called
returns-in-Err-clause-called g c = inr (record { stayed = c.in-Err.ensures.stayed; refused_is = c.refused-in-Err.ensures.reply })

pub returns-in-Ok-arrive-clause-called : goal.returns-in-Ok-arrive-clause-called
returns-in-Ok-arrive-clause-called g c =
    let job = c.in-Ok.job in
    let waiting = c.in-Ok-arrive.waiting in
    let running = c.wait-running.result in
    let call_is = c.wait-running.ensures.job.0 ∙ c.in-Ok-arrive.ensures.job.0 ∙ c.in-Ok.ensures.0 in
    let from_is = c.wait-running.ensures.job.1 ∙ c.in-Ok-arrive.ensures.job.1 ∙ c.in-Ok.ensures.1 in
    let arrived = c.in-Ok-arrive.ensures.own ∙ ap (λ (k : Call). c.args.seat.now.own ++ plain (Arrive c.args.seat.now.number waiting.ticket.number (want_of k)) ∷ []) c.in-Ok.ensures.0 in
    inl (served c.args.call c.args.from c.finish.result.reply running.job.call running.job.from c.args.seat.now c.arrive.new.seat c.wait-running.new.seat c.finish.new.seat waiting.ticket.number running.guard.ticket
    (min (faults_out running.guard.part.cells.items running.guard.part.table) (2 ^ 64 - 1)) call_is from_is c.in-Ok-arrive.ensures.later c.wait-running.ensures.later arrived c.wait-running.ensures.own.1 c.wait-running.ensures.own.0 c.finish.ensures.released)
