use Rattle.st_laws.proofs.Engine.{writes-are-read}
use Rattle.st_laws.proofs.writes_are_read.Goals as goal

pub returns : goal.returns
returns c = writes-are-read
