use Rattle.st_commit.proofs.Staying.{alone_self, alone_both, alone_written, alone_synced}
use Rattle.st_commit.proofs.laws.what_leaves_alone.Goals as goal

pub returns-clause-nothing : goal.returns-clause-nothing
returns-clause-nothing x = λ area a. alone_self area a

pub returns-clause-write : goal.returns-clause-write
returns-clause-write x = λ area at bytes a b off step. alone_written area at bytes a b off step

pub returns-clause-sync : goal.returns-clause-sync
returns-clause-sync x = λ area a b step. alone_synced area a b step

pub returns-clause-both : goal.returns-clause-both
returns-clause-both x = λ area a b c one two. alone_both area a b c one two
