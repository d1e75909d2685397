use Rattle.st_cells.proofs.Tables.{table_added, table_dropped, table_replaced}
use Rattle.st_cells.proofs.the_table.Goals as goal

pub returns-clause-added : goal.returns-clause-added
returns-clause-added c = table_added

pub returns-clause-put : goal.returns-clause-put
returns-clause-put c = table_replaced

pub returns-clause-dropped : goal.returns-clause-dropped
returns-clause-dropped c = table_dropped
