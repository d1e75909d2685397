use Rattle.st_image.proofs.Unique.{stands_once}
use Rattle.st_image.proofs.laws.stands_once.Goals as goal

pub returns : goal.returns
returns c = stands_once
