use Rattle.st_image.proofs.Calming.{kept_halted}
use Rattle.st_image.proofs.laws.kept_by_stop.Goals as goal

pub returns : goal.returns
returns c = kept_halted
