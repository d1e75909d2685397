use Rattle.std.specs.Prelude.{option_map, ◌==◌}
use Rattle.std.proofs.Common.{ap, sym, ◌∙◌}
use Rattle.st_table.specs.Table.{TablePool}
use Rattle.st_table.specs.inner.Sound.{table_pool}
use Rattle.st_order.proofs.Lists.{find-map}
use Rattle.st_table.proofs.roster.user_among.Goals as goal

pub returns-in-Some : goal.returns-in-Some
returns-in-Some c = rw c.in-Some.is (ap (option_map table_pool) c.of_serial.ensures ∙ sym (find-map table_pool (λ (pool : TablePool). pool.known.serial == c.in-Some.user) c.args.pools.now))
