use Rattle.st_commit.proofs.Restart.{newest_read, ready_read, ready_new}
use Rattle.st_commit.proofs.laws.what_a_start_reads.Goals as goal

pub returns-clause-newest : goal.returns-clause-newest
returns-clause-newest x = λ pool p g rec devs s settled one newest. newest_read pool p devs s settled g rec one newest

pub returns-clause-ready : goal.returns-clause-ready
returns-clause-ready x = λ pool flex p g rec log devs first s head settled one newest bears logged. ready_read pool flex p devs first s settled head g rec log one newest bears logged

pub returns-clause-none : goal.returns-clause-none
returns-clause-none x = λ pool flex p h devs first s settled newest. ready_new pool flex p devs first s settled h newest
