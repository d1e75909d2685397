use Rattle.test_model.proofs.Computed.{new-reported}
use Rattle.test_model.proofs.rows.new_pools_are_reported.Goals as goal

pub returns : goal.returns
returns c = new-reported
