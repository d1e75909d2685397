use Rattle.st_begin.proofs.Beginning.{table_is}
use Rattle.st_begin.proofs.told.table_on.Goals as goal

pub returns : goal.returns
returns g c e stands =
    table_is g.R.Rack.devs g.R.Rack.moment g.R.Rack.state_at c.told_of-told.result.opened.value c.args.rack.now c.told_of-told.result.is c.told_of-told.ensures e stands c.table_in-table.result.value c.args.next c.table_in-table.ensures
