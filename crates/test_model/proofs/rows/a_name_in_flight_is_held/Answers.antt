use Rattle.test_model.proofs.Computed.{name-held}
use Rattle.test_model.proofs.rows.a_name_in_flight_is_held.Goals as goal

pub returns : goal.returns
returns c = name-held
