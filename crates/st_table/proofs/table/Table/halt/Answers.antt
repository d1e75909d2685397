use Rattle.std.proofs.Common.{ap, ◌∙◌}
use Rattle.st_table.specs.Table.{knows}
use Rattle.st_table.proofs.table.Table.halt.Goals as goal

pub put_in-requires-clause-name : goal.put_in-requires-clause-name
put_in-requires-clause-name c = ap (λ n. knows n c.take_out-pool.new.self.pools) c.take_out-pool.ensures.called ∙ c.take_out-pool.ensures.name
