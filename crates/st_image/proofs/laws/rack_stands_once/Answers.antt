use Rattle.st_image.proofs.Engine.{rack_once}
use Rattle.st_image.proofs.laws.rack_stands_once.Goals as goal

pub returns : goal.returns
returns c = rack_once
