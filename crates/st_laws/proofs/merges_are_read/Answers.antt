use Rattle.st_laws.proofs.Merging.{merges-are-read}
use Rattle.st_laws.proofs.merges_are_read.Goals as goal

pub returns : goal.returns
returns c = merges-are-read
