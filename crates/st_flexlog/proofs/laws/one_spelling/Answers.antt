use Rattle.st_flexlog.proofs.Deltas.{delta_spelled}
use Rattle.st_flexlog.proofs.laws.one_spelling.Goals as goal

pub returns : goal.returns
returns c = delta_spelled
