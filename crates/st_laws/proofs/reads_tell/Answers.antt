use Rattle.st_laws.proofs.Engine.{reads-tell}
use Rattle.st_laws.proofs.reads_tell.Goals as goal

pub returns : goal.returns
returns c = reads-tell
