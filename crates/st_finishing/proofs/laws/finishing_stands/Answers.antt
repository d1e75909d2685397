use Rattle.st_finishing.proofs.Standing.{stands_still}
use Rattle.st_finishing.proofs.laws.finishing_stands.Goals as goal

pub returns : goal.returns
returns k devs a c e rises stands finishing = stands_still devs a c rises finishing e stands
