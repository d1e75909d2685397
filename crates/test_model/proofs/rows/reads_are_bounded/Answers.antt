use Rattle.test_model.proofs.Computed.{reads-bounded}
use Rattle.test_model.proofs.rows.reads_are_bounded.Goals as goal

pub returns : goal.returns
returns c = reads-bounded
