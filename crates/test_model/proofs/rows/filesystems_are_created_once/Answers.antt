use Rattle.test_model.proofs.Computed.{created-once}
use Rattle.test_model.proofs.rows.filesystems_are_created_once.Goals as goal

pub returns : goal.returns
returns c = created-once
