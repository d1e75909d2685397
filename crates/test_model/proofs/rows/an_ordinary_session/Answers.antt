use Rattle.test_model.proofs.Computed.{ordinary-session}
use Rattle.test_model.proofs.rows.an_ordinary_session.Goals as goal

pub returns : goal.returns
returns c = ordinary-session
