use Rattle.std.specs.Prelude.{option_copied}
use Rattle.std.specs.List.{list_any}
use Rattle.std.proofs.Common.{List, map, ap, sym, ◌∙◌}
use Rattle.st_model.specs.Parts.{is_used}
use Rattle.st_table.specs.declared.pool.Pool.{Pool}
use Rattle.st_table.specs.Table.{TablePool, without}
use Rattle.st_table.specs.inner.Sound.{RosterView, table_pool}
use Rattle.st_table.proofs.Asked.{any_other, free_absent, free_there}
use Rattle.st_table.proofs.roster.Roster.is_free_beside.Goals as goal

pub returns-in-Some : goal.returns-in-Some
returns-in-Some c =
    free_there (without c.args.own.now c.args.self.now.pools) c.args.self.now.devices c.args.path.now _ c.used_beside.result (sym c.row.ensures ∙ ap option_copied c.in-Some.is)
    (c.used_beside.ensures ∙ (any_other (λ (pool : TablePool). is_used c.args.path.now pool.known) c.args.own.now c.deref.result.now
    ∙ (ap (λ (xs : List Pool). list_any (λ (pool : TablePool). is_used c.args.path.now pool.known) (without c.args.own.now (map table_pool xs))) c.deref.ensures.value
    ∙ ap (λ (v : RosterView). list_any (λ (pool : TablePool). is_used c.args.path.now pool.known) (without c.args.own.now v.pools)) c.self.view_is)))

pub returns-in-None : goal.returns-in-None
returns-in-None c = free_absent (without c.args.own.now c.args.self.now.pools) c.args.self.now.devices c.args.path.now (sym c.row.ensures ∙ ap option_copied c.in-None.is)
