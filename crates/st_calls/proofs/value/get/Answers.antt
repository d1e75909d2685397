use Rattle.st_calls.proofs.Seen.{found-view}
use Rattle.st_calls.proofs.value.get.Goals as goal

pub returns : goal.returns
returns c = found-view c.args.value.now c.args.key.now c.get.result c.get.ensures
