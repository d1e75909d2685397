use Rattle.std.proofs.Common.{map, ap, ◌∙◌}
use Rattle.st_model.specs.OnTable.{is_held}
use Rattle.st_table.specs.Table.{TablePool, is_taken, without}
use Rattle.st_table.specs.inner.Sound.{RosterView, table_pool}
use Rattle.st_table.proofs.Asked.{any_other}
use Rattle.st_table.proofs.roster.Roster.is_taken_beside.Goals as goal

pub returns : goal.returns
returns c =
    c.taken_beside.ensures ∙ (any_other (λ (pool : TablePool). is_held c.args.name.now pool.known) c.args.own.now c.deref.result.now
    ∙ (ap (λ xs. is_taken c.args.name.now (without c.args.own.now (map table_pool xs))) c.deref.ensures.value
    ∙ ap (λ (v : RosterView). is_taken c.args.name.now (without c.args.own.now v.pools)) c.self.view_is))
