use Rattle.st_image.proofs.Keeping.{kept_sync}
use Rattle.st_image.proofs.laws.kept_by_sync.Goals as goal

pub returns : goal.returns
returns c = kept_sync
