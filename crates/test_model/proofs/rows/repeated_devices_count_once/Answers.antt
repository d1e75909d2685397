use Rattle.test_model.proofs.Computed.{repeated-once}
use Rattle.test_model.proofs.rows.repeated_devices_count_once.Goals as goal

pub returns : goal.returns
returns c = repeated-once
