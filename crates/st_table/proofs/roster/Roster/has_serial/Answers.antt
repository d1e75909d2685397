use Rattle.std.proofs.Common.{map, ap, ◌∙◌}
use Rattle.st_table.specs.Table.{has_serial}
use Rattle.st_table.specs.inner.Sound.{RosterView, table_pool}
use Rattle.st_table.proofs.Asked.{serial_told}
use Rattle.st_table.proofs.roster.Roster.has_serial.Goals as goal

pub returns : goal.returns
returns c =
    c.is_some.ensures ∙ (serial_told c.number.result c.deref.result.now c.of_serial.result c.of_serial.ensures
    ∙ (ap (λ n. has_serial n (map table_pool c.deref.result.now)) c.number.ensures.value
    ∙ (ap (λ xs. has_serial c.args.serial (map table_pool xs)) c.deref.ensures.value ∙ ap (λ (v : RosterView). has_serial c.args.serial v.pools) c.self.view_is)))
