use Rattle.test_model.proofs.Computed.{space-ends}
use Rattle.test_model.proofs.rows.space_ends.Goals as goal

pub returns : goal.returns
returns c = space-ends
