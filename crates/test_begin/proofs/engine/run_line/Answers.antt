use Rattle.std.proofs.Common.{◌∙◌}
use Rattle.test_begin.proofs.Engines.{after_call}
use Rattle.test_begin.proofs.engine.run_line.Goals as goal

pub returns-clause-here : goal.returns-clause-here
returns-clause-here g c = (after_call _ _ _ _ _ c.call-answer.ensures.called).0 ∙ c.requires.here

pub returns-clause-opening : goal.returns-clause-opening
returns-clause-opening g c = (after_call _ _ _ _ _ c.call-answer.ensures.called).1
