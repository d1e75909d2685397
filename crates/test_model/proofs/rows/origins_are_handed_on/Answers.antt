use Rattle.test_model.proofs.Computed.{handed-on}
use Rattle.test_model.proofs.rows.origins_are_handed_on.Goals as goal

pub returns : goal.returns
returns c = handed-on
