use Rattle.st_finishing.proofs.Writes.{is_written, leaves_write, on_both}
use Rattle.st_finishing.proofs.spread.write_on.Goals as goal

pub returns-clause-during : goal.returns-clause-during
returns-clause-during g c = leaves_write g.R.Rack.moment g.R.Rack.state_at c.args.rack.now c.write_next.new.rack c.args.dev.now c.args.generation c.args.rec.now c.requires.fits c.pool_area.result c.pool_area.ensures c.write_next.ensures.time c.write_next.ensures.torn

pub returns-clause-done : goal.returns-clause-done
returns-clause-done g c = on_both c.write_next.result c.write_next.ensures.done c.write_next.ensures.written (is_written g.R.Rack.moment g.R.Rack.state_at c.args.rack.now c.write_next.new.rack c.args.dev.now c.args.generation c.args.rec.now c.requires.fits c.pool_area.result c.pool_area.ensures)
