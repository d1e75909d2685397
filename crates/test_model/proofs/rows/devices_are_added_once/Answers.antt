use Rattle.test_model.proofs.Computed.{added-once}
use Rattle.test_model.proofs.rows.devices_are_added_once.Goals as goal

pub returns : goal.returns
returns c = added-once
