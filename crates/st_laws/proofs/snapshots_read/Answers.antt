use Rattle.st_laws.proofs.Engine.{snapshots-read}
use Rattle.st_laws.proofs.snapshots_read.Goals as goal

pub returns : goal.returns
returns c = snapshots-read
