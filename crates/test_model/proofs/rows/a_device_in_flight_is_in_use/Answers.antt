use Rattle.test_model.proofs.Computed.{device-held}
use Rattle.test_model.proofs.rows.a_device_in_flight_is_in_use.Goals as goal

pub returns : goal.returns
returns c = device-held
