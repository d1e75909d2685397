use Rattle.st_stopping.proofs.Stopping.{devices_free, new_free, table_told}
use Rattle.st_stopping.proofs.run.table_after.Goals as goal

pub halted-requires-clause-new : goal.halted-requires-clause-new
halted-requires-clause-new g c = new_free c.the_table_tells.ensures.started c.stops.ensures.told c.args.table.now c.args.before.now.value c.args.pool.now.pool c.in_ok-info.info c.args.name.now c.requires.named c.requires.started c.in_ok-info.ensures

pub halted-requires-clause-free : goal.halted-requires-clause-free
halted-requires-clause-free g c = devices_free c.the_table_tells.ensures.started c.stops.ensures.told c.args.table.now c.args.before.now.value c.args.pool.now.pool c.in_ok-info.info c.args.name.now c.requires.named c.requires.started c.in_ok-info.ensures

pub returns : goal.returns
returns g c = table_told c.the_table_tells.ensures.started c.stops.ensures.told c.args.table.now c.args.before.now.value c.args.pool.now.pool c.in_ok-info.info c.args.name.now c.requires.named c.requires.started c.in_ok-info.ensures c.halted.result c.halted.ensures
