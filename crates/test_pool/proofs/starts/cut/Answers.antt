use Rattle.test_pool.proofs.starts.cut.Goals as goal

pub returns : goal.returns
returns c = (c.requires.0, c.cycle.ensures.halts c.requires.0 c.requires.1, c.requires.2)
