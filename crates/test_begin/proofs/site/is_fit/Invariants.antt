use Rattle.test_begin.proofs.Fit.{AreSmall}
use Rattle.test_begin.proofs.site.is_fit.Given as goal

abbrev pub invariant-loop-i : goal.invariant-loop-i
invariant-loop-i g l = AreSmall (g.R.Rack.devs l.rack) l.i
