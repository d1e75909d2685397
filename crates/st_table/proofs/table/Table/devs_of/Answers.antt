use Rattle.std.proofs.Common.{ap, sym, ◌∙◌}
use Rattle.std.specs.Prelude.{option_map, option_copied}
use Rattle.st_table.specs.Table.{TableView, knows}
use Rattle.st_table.specs.inner.Sound.{table_pool}
use Rattle.st_table.proofs.Changes.{known_is_found}
use Rattle.st_table.proofs.table.Table.devs_of.Goals as goal

pub unreachable-requires : goal.unreachable-requires
unreachable-requires c = known_is_found c.self.inside.roster.pools c.args.name.now (ap (λ (v : TableView). knows c.args.name.now v.pools) c.self.view_is ∙ c.requires) (sym c.pool.ensures ∙ ap (λ o. option_map table_pool (option_copied o)) c.in-None.is)
