use Rattle.st_image.proofs.Calming.{calm_kept}
use Rattle.st_image.proofs.laws.up_is_kept.Goals as goal

pub returns : goal.returns
returns c = calm_kept
