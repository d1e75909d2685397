use Rattle.st_boarding.proofs.Rows.{rows_apart}
use Rattle.st_boarding.proofs.laws.found_lie_apart.Goals as goal

pub returns : goal.returns
returns c = rows_apart
