use Rattle.test_model.proofs.Computed.{serials-rise}
use Rattle.test_model.proofs.rows.serials_are_given_once.Goals as goal

pub returns : goal.returns
returns c = serials-rise
