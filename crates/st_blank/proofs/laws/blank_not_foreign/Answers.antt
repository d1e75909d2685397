use Rattle.st_blank.proofs.Blank.{blank_not_foreign}
use Rattle.st_blank.proofs.laws.blank_not_foreign.Goals as goal

pub returns : goal.returns
returns c = blank_not_foreign
