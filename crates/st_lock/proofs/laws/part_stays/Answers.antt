use Rattle.st_lock.proofs.Staying.{part-stays}
use Rattle.st_lock.proofs.laws.part_stays.Goals as goal

pub returns : goal.returns
returns c = part-stays
