use Rattle.test_model.proofs.Computed.{snapshot-outlives}
use Rattle.test_model.proofs.rows.snapshots_outlive_their_origin.Goals as goal

pub returns : goal.returns
returns c = snapshot-outlives
