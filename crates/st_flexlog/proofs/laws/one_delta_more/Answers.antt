use Rattle.st_flexlog.proofs.Saying.{says_more}
use Rattle.st_flexlog.proofs.laws.one_delta_more.Goals as goal

pub returns : goal.returns
returns c = says_more
