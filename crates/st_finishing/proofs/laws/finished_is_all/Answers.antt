use Rattle.st_finishing.proofs.Standing.{all_finished}
use Rattle.st_finishing.proofs.laws.finished_is_all.Goals as goal

pub returns : goal.returns
returns k devs a c e rises stands finishing finished = all_finished devs a c rises finishing e stands finished
