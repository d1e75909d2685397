use Rattle.st_lines.proofs.Bare.{Bare-lines_of}
use Rattle.st_lines.proofs.Joined.{joined-lines_of}
use Rattle.st_lines.proofs.laws.lines_give_back.Goals as goal

pub returns-clause-whole : goal.returns-clause-whole
returns-clause-whole c = joined-lines_of

pub returns-clause-bare : goal.returns-clause-bare
returns-clause-bare c = Bare-lines_of
