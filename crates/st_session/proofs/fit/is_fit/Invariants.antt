use Rattle.st_session.proofs.Small.{AreSmall}
use Rattle.st_session.proofs.fit.is_fit.Given as goal

abbrev pub invariant-loop-i : goal.invariant-loop-i
invariant-loop-i g l = AreSmall (g.R.Rack.devs l.rack) l.i
