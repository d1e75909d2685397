use Rattle.st_image.proofs.EngineKeeping.{engine_sync}
use Rattle.st_image.proofs.laws.engine_kept_by_sync.Goals as goal

pub returns : goal.returns
returns c = engine_sync
