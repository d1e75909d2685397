use Rattle.std.proofs.Common.{sym, ◌∙◌}
use Rattle.st_table.specs.declared.device.Device.{Device}
use Rattle.st_order.proofs.Order.{none_changed}
use Rattle.st_table.proofs.Marks.{marked_one}
use Rattle.st_table.specs.inner.Sound.{path_in}
use Rattle.st_table.proofs.device.mark_one.Goals as goal

pub returns-in-Ok : goal.returns-in-Ok
returns-in-Ok c =
    let changed = rw c.bytes.ensures.value at (c.in-Ok.ensures.changed (λ (d : Device). record d { user = c.args.user }) c.index-devices-i.result) in
    changed ∙ sym (marked_one c.args.path.now c.args.user c.args.devices.now)

pub returns-in_default : goal.returns-in_default
returns-in_default c =
    let absent = rw c.bytes.ensures.value at c.in_default.ensures.absent in
    sym (marked_one c.args.path.now c.args.user c.args.devices.now ∙ none_changed path_in c.args.path.now (λ (d : Device). record d { user = c.args.user }) c.args.devices.now absent)
