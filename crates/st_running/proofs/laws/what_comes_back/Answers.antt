use Rattle.st_running.proofs.Given.{comes_back, counts_faults}
use Rattle.st_running.proofs.Returning.{goes_home}
use Rattle.st_running.proofs.laws.what_comes_back.Goals as goal

pub returns-clause-back : goal.returns-clause-back
returns-clause-back g c = comes_back _ _ _ _

pub returns-clause-counts : goal.returns-clause-counts
returns-clause-counts g c = counts_faults _ _ _ _

pub returns-clause-home : goal.returns-clause-home
returns-clause-home g c = goes_home _ _ _ _
