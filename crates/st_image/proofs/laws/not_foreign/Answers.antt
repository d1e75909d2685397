use Rattle.st_image.proofs.Engine.{not_foreign}
use Rattle.st_image.proofs.laws.not_foreign.Goals as goal

pub returns : goal.returns
returns c = not_foreign
