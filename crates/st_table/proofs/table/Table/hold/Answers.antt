use Rattle.std.proofs.Common.{ap, ◌∙◌}
use Rattle.st_table.specs.Table.{TableView, TablePool, knows, runs}
use Rattle.st_table.proofs.Changes.{runs_known, runs_started}
use Rattle.st_table.proofs.table.Table.hold.Goals as goal

pub take_out-pool-requires : goal.take_out-pool-requires
take_out-pool-requires c = runs_known c.args.name.now c.self.inside.roster.pools (ap (λ (v : TableView). runs c.args.name.now v.pools) c.self.view_is ∙ c.requires.started)

pub hold-requires : goal.hold-requires
hold-requires c = runs_started c.args.name.now c.self.inside.roster.pools c.take_out-pool.result (ap (λ (v : TableView). runs c.args.name.now v.pools) c.self.view_is ∙ c.requires.started) c.take_out-pool.ensures.found

pub put_in-requires-clause-name : goal.put_in-requires-clause-name
put_in-requires-clause-name c =
    let name = ap (λ (p : TablePool). p.known.name) c.hold.ensures ∙ c.take_out-pool.ensures.called in
    ap (λ n. knows n c.take_out-pool.new.self.pools) name ∙ c.take_out-pool.ensures.name
