use Rattle.std.proofs.Common.{sym}
use Rattle.st_table.proofs.Changes.{row_found, row_absent}
use Rattle.st_table.proofs.roster.Roster.row.Goals as goal

pub returns-in-Ok : goal.returns-in-Ok
returns-in-Ok c =
    rw (← c.self.view_is) (sym (row_found c.deref.result.now c.self.inside.devices.items c.bytes.result.now c.args.path.now c.in-Ok.i c.index.result.now c.deref.ensures.value c.bytes.ensures.value (c.in-Ok.ensures.found c.index.result.now) c.index.ensures))

pub returns-in-Err : goal.returns-in-Err
returns-in-Err c = rw (← c.self.view_is) (sym (row_absent c.deref.result.now c.self.inside.devices.items c.bytes.result.now c.args.path.now c.deref.ensures.value c.bytes.ensures.value c.in-Err.ensures.absent))
