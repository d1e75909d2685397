use Rattle.test_lock.proofs.Opened.{table-opens}
use Rattle.test_lock.proofs.plain_lock.one_table.Goals as goal

pub returns : goal.returns
returns c = table-opens _ c.in_ok-rows.ensures _ c.in_ok-table.ensures
