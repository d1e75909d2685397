use Rattle.st_starting.proofs.Devices.{sized_in}
use Rattle.st_starting.specs.Found.{sized}
use Rattle.st_starting.proofs.Restrict.{none_inside}
use Rattle.st_starting.proofs.Finished.{ended_stands}
use Rattle.st_starting.proofs.laws.what_is_not_there.Goals as goal

pub returns-clause-nothing : goal.returns-clause-nothing
returns-clause-nothing c = λ p rack list image rises there none. none_inside p image rack (sized rack list) rises (sized_in rack list there) none

pub returns-clause-gone : goal.returns-clause-gone
returns-clause-gone c = λ p g rec rack list image rises there ended. ended_stands p rack list rises there image g rec ended
