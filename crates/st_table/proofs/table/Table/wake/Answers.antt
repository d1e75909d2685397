use Rattle.std.proofs.Common.{ap, ◌∙◌}
use Rattle.st_table.specs.Table.{TableView, is_taken, without}
use Rattle.st_table.proofs.Changes.{not_taken}
use Rattle.st_table.proofs.table.Table.wake.Goals as goal

pub put_in-requires-clause-name : goal.put_in-requires-clause-name
put_in-requires-clause-name c = rw c.take_out-pool.ensures.pools (not_taken c.args.name (without c.args.old.now c.self.inside.roster.pools) (ap (λ (v : TableView). is_taken c.args.name (without c.args.old.now v.pools)) c.self.view_is ∙ c.requires.name))
