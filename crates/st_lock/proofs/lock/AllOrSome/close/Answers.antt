use Rattle.st_lock.proofs.LastLook.{quiet_before}
use Rattle.st_lock.proofs.lock.AllOrSome.close.Goals as goal

pub returns-in-Ok-None-clause-quiet : goal.returns-in-Ok-None-clause-quiet
returns-in-Ok-None-clause-quiet g c = quiet_before c.args.seat c.unreleased.new.seat c.end-table.result.log.items _ _ _ c.in-Ok-None.ensures.later c.in-Ok-None.ensures.own c.end-table.ensures.quiet
