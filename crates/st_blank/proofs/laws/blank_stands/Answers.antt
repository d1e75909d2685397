use Rattle.st_blank.proofs.Blank.{blank_stands}
use Rattle.st_blank.proofs.laws.blank_stands.Goals as goal

pub returns : goal.returns
returns c = blank_stands
