use Rattle.st_blank.proofs.Blank.{blank_stands_once}
use Rattle.st_blank.proofs.laws.blank_stands_once.Goals as goal

pub returns : goal.returns
returns c = blank_stands_once
