use Rattle.std.proofs.Common.{◌≡◌, inl, inr, refl, sym, subst}
use Rattle.st_session.specs.Headline.{Counts, IsRunOf}
use Rattle.st_session.proofs.Ends.{output_of}
use Rattle.st_session.proofs.input.run_input.Goals as goal

pub returns-in-Ok-clause-ended : goal.returns-in-Ok-clause-ended
returns-in-Ok-clause-ended g c =
    let R = g.R.Rack in
    let wrote = c.written_after.ensures in
    inr (output_of R.devs R.moment R.state_at R.faults c.args.rack c.args.words.lanes c.args.words.trace c.args.lines.now _ _ c.written_after.result.status c.in-Ok.ended.log.items c.written_after.result.log.items c.in-Ok.ended.rack c.written_after.result.rack
    wrote.log wrote.rack c.in-Ok.ensures.run c.in-Ok.ensures.counts wrote.status wrote.done wrote.cut)

pub returns-in-Err-clause-ended : goal.returns-in-Err-clause-ended
returns-in-Err-clause-ended g c = inl (c.in-Err.ensures.early, refl)
