use Rattle.test_model.proofs.Computed.{marks-cleared}
use Rattle.test_model.proofs.rows.marks_go_with_their_origin.Goals as goal

pub returns : goal.returns
returns c = marks-cleared
