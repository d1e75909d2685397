use Rattle.st_cells.proofs.Cells.{added, dropped, each_own, halted_law, no_more, no_one_out, started_law, taken_out}
use Rattle.st_cells.proofs.the_started_pools.Goals as goal

pub returns-clause-taken : goal.returns-clause-taken
returns-clause-taken c = taken_out

pub returns-clause-none : goal.returns-clause-none
returns-clause-none c = no_one_out

pub returns-clause-added : goal.returns-clause-added
returns-clause-added c = added

pub returns-clause-started : goal.returns-clause-started
returns-clause-started c = started_law

pub returns-clause-halted : goal.returns-clause-halted
returns-clause-halted c = halted_law

pub returns-clause-dropped : goal.returns-clause-dropped
returns-clause-dropped c = dropped

pub returns-clause-no_more : goal.returns-clause-no_more
returns-clause-no_more c = no_more

pub returns-clause-each : goal.returns-clause-each
returns-clause-each c = each_own
