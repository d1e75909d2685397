use Rattle.st_history.proofs.Over.{entries-go_over}
use Rattle.st_history.proofs.laws.entries_go_over.Goals as goal

pub returns : goal.returns
returns c = entries-go_over
