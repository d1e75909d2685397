use Rattle.std.proofs.Common.{ap, ◌∙◌}
use Rattle.st_table.specs.Table.{TableView, knows}
use Rattle.st_table.proofs.Asked.{known_told}
use Rattle.st_table.proofs.table.Table.is_known.Goals as goal

pub returns : goal.returns
returns c = c.is_some.ensures ∙ (known_told c.args.name.now c.self.inside.roster.pools c.pool.result c.pool.ensures ∙ ap (λ (v : TableView). knows c.args.name.now v.pools) c.self.view_is)
