use Rattle.st_image.proofs.Calming.{calm_stands}
use Rattle.st_image.proofs.laws.up_stands.Goals as goal

pub returns : goal.returns
returns c = calm_stands
