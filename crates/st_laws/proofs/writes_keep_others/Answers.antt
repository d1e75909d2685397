use Rattle.st_laws.proofs.Engine.{writes-keep-others}
use Rattle.st_laws.proofs.writes_keep_others.Goals as goal

pub returns : goal.returns
returns c = writes-keep-others
