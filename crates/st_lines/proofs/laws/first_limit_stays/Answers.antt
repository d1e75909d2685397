use Rattle.st_lines.proofs.Stays.{first-stays}
use Rattle.st_lines.proofs.laws.first_limit_stays.Goals as goal

pub returns : goal.returns
returns c = first-stays
