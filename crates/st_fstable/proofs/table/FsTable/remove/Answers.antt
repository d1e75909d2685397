use Rattle.std.proofs.Common.{sym}
use Rattle.st_order.proofs.Order.{find_none, filter_none}
use Rattle.st_fstable.specs.Rows.{has_serial}
use Rattle.st_fstable.specs.inner.ByName.{name_of}
use Rattle.st_fstable.proofs.ByName.{there_of, taken_out}
use Rattle.st_fstable.proofs.table.FsTable.remove.Goals as goal

pub leave-requires-clause-there : goal.leave-requires-clause-there
leave-requires-clause-there c =
    let found = rw c.deref.ensures.value at c.in-Ok.ensures.found in
    rw c.deref-in-Ok.ensures.value (there_of c.self.inside.rows.items c.args.serial c.in-Ok.i found)

pub invariant_of-self : goal.invariant_of-self
invariant_of-self c =
    taken_out c.self.inside.rows.items c.deref.result.now c.deref-in-Ok.result.now c.remove.new.self.items c.leave.new.names.items c.args.serial c.in-Ok.i
    c.self.invariant.apart c.deref.ensures.value c.deref-in-Ok.ensures.value c.remove.ensures.items c.in-Ok.ensures.others c.leave.ensures.others

pub returns-in-Err-clause-row : goal.returns-in-Err-clause-row
returns-in-Err-clause-row c =
    let absent = rw c.deref.ensures.value at c.in-Err.ensures.absent in
    rw (← c.self.view_is) (sym (find_none name_of (has_serial c.args.serial) c.self.inside.rows.items absent))

pub returns-in-Err-clause-rest : goal.returns-in-Err-clause-rest
returns-in-Err-clause-rest c =
    let absent = rw c.deref.ensures.value at c.in-Err.ensures.absent in
    rw (← c.self.view_is) (sym (filter_none name_of (has_serial c.args.serial) c.self.inside.rows.items absent))
