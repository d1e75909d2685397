use Rattle.st_flexlog.proofs.Deltas.{delta_back}
use Rattle.st_flexlog.proofs.laws.what_is_written_is_read.Goals as goal

pub returns : goal.returns
returns c = delta_back
