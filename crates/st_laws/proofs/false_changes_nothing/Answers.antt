use Rattle.st_laws.proofs.False.{false-changes-nothing}
use Rattle.st_laws.proofs.false_changes_nothing.Goals as goal

pub returns : goal.returns
returns c = false-changes-nothing
