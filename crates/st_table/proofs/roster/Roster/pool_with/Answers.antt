use Rattle.std.specs.Prelude.{option_map, ◌==◌}
use Rattle.std.proofs.Common.{map, ap, sym, ◌∙◌}
use Rattle.st_order.proofs.Lists.{find-map}
use Rattle.st_table.specs.Table.{TablePool, pool_with}
use Rattle.st_table.specs.inner.Sound.{RosterView, table_pool}
use Rattle.st_table.proofs.roster.Roster.pool_with.Goals as goal

pub returns : goal.returns
returns c =
    ap (option_map table_pool) c.of_serial.ensures ∙ (sym (find-map table_pool (λ (pool : TablePool). pool.known.serial == c.number.result) c.deref.result.now)
    ∙ (ap (λ n. pool_with n (map table_pool c.deref.result.now)) c.number.ensures.value
    ∙ (ap (λ xs. pool_with c.args.serial (map table_pool xs)) c.deref.ensures.value ∙ ap (λ (v : RosterView). pool_with c.args.serial v.pools) c.self.view_is)))
