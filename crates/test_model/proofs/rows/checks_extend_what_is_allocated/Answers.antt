use Rattle.test_model.proofs.Computed.{check-extends}
use Rattle.test_model.proofs.rows.checks_extend_what_is_allocated.Goals as goal

pub returns : goal.returns
returns c = check-extends
