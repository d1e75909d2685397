use Rattle.std.proofs.Common.{ap, ◌∙◌}
use Rattle.st_table.specs.Table.{TableView, is_taken}
use Rattle.st_table.proofs.Changes.{not_taken}
use Rattle.st_table.proofs.table.Table.add.Goals as goal

pub put_in-requires-clause-name : goal.put_in-requires-clause-name
put_in-requires-clause-name c = not_taken c.args.name c.self.inside.roster.pools (ap (λ (v : TableView). is_taken c.args.name v.pools) c.self.view_is ∙ c.requires.name)
