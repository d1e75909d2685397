use Rattle.test_model.proofs.Computed.{shared-kept}
use Rattle.test_model.proofs.rows.shared_blocks_are_kept.Goals as goal

pub returns : goal.returns
returns c = shared-kept
