use Rattle.st_image.proofs.EngineKeeping.{engine_cut}
use Rattle.st_image.proofs.laws.engine_kept_by_cut.Goals as goal

pub returns : goal.returns
returns c = engine_cut
