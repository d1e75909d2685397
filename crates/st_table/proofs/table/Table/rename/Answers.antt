use Rattle.std.proofs.Common.{ap, ◌∙◌}
use Rattle.st_table.specs.Table.{TableView, is_taken}
use Rattle.st_table.proofs.Changes.{new_to_rest}
use Rattle.st_table.proofs.table.Table.rename.Goals as goal

pub put_in-requires-clause-name : goal.put_in-requires-clause-name
put_in-requires-clause-name c = new_to_rest c.self.inside.roster.pools c.take_out-pool.new.self.pools c.args.new c.args.old.now c.take_out-pool.ensures.pools (ap (λ (v : TableView). is_taken c.args.new v.pools) c.self.view_is ∙ c.requires.name)
