use Rattle.st_laws.proofs.Engine.{destroying-keeps-others}
use Rattle.st_laws.proofs.destroying_keeps_others.Goals as goal

pub returns : goal.returns
returns c = destroying-keeps-others
