use Rattle.st_image.proofs.Keeping.{kept_same}
use Rattle.st_image.proofs.laws.kept_where_same.Goals as goal

pub returns : goal.returns
returns c = kept_same
