use Rattle.st_flexlog.proofs.Saying.{says_one}
use Rattle.st_flexlog.proofs.laws.one_state.Goals as goal

pub returns : goal.returns
returns c = says_one
