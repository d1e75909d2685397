use Rattle.st_model.specs.Checks.{halted}
use Rattle.test_pool.proofs.starts.stop.Goals as goal

pub returns : goal.returns
returns c = (halted c.args.pool.pool, c.stop.ensures.halts, c.stop.ensures.starts)
