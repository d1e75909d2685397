use Rattle.std.proofs.Common.{sym}
use Rattle.st_order.proofs.Order.{find_none}
use Rattle.st_fstable.specs.Rows.{has_serial}
use Rattle.st_fstable.specs.inner.ByName.{name_of}
use Rattle.st_fstable.proofs.ByName.{there_of}
use Rattle.st_fstable.proofs.table.FsTable.row.Goals as goal

pub returns-in-Err-clause-row : goal.returns-in-Err-clause-row
returns-in-Err-clause-row c =
    let absent = rw c.deref.ensures.value at c.in-Err.ensures.absent in
    rw (← c.self.view_is) (sym (find_none name_of (has_serial c.args.serial) c.self.inside.rows.items absent))

pub returns-in-Ok-clause-there : goal.returns-in-Ok-clause-there
returns-in-Ok-clause-there c =
    let found = rw c.deref.ensures.value at c.in-Ok.ensures.found in
    rw (← c.self.view_is) (there_of c.self.inside.rows.items c.args.serial c.in-Ok.i found)
