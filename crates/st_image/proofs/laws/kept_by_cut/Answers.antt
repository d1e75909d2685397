use Rattle.st_image.proofs.Keeping.{kept_cut}
use Rattle.st_image.proofs.laws.kept_by_cut.Goals as goal

pub returns : goal.returns
returns c = kept_cut
