use Rattle.std.proofs.Common.{refl, subst}
use Rattle.st_model.specs.declared.entry.Entry.{Entry}
use Rattle.st_model.specs.declared.state.EngineState.{EngineState}
use Rattle.st_running.specs.Part.{HasRunOn}
use Rattle.st_engine.proofs.Held.{back}
use Rattle.st_engine.proofs.engine.Engine.finish.Goals as goal

pub release-requires-clause-back : goal.release-requires-clause-back
release-requires-clause-back g c κs within =
    let R = g.R.Rack in let call = c.args.running.job.call in let part = c.args.running.guard.part in let x = c.run_on-part.result in
    let ran = subst (λ (s : EngineState). HasRunOn R.devs R.moment R.state_at R.faults s call x.answer part.cells.items part.table x.part.cells.items x.part.table) c.state-before.ensures c.run_on-part.ensures in
    let e : Entry = record { call = call; env = x.answer.env; from = c.args.running.job.from; reply = x.answer.reply } in
    back R.devs R.moment R.state_at R.faults c.args.seat.now c.args.running.guard.ticket call part.cells.items part.table c.requires.holds x.answer e x.part.cells.items x.part.table
    (record { call_is = refl; env_is = refl; reply_is = refl; from = c.requires.from }) ran c.what_comes_back.ensures.back c.requires.runs

pub release-requires-clause-spares : goal.release-requires-clause-spares
release-requires-clause-spares g c κs within =
    let R = g.R.Rack in let call = c.args.running.job.call in let part = c.args.running.guard.part in let x = c.run_on-part.result in
    (subst (λ (s : EngineState). HasRunOn R.devs R.moment R.state_at R.faults s call x.answer part.cells.items part.table x.part.cells.items x.part.table) c.state-before.ensures c.run_on-part.ensures).shown
