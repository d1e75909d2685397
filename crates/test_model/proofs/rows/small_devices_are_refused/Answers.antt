use Rattle.test_model.proofs.Computed.{small-refused}
use Rattle.test_model.proofs.rows.small_devices_are_refused.Goals as goal

pub returns : goal.returns
returns c = small-refused
