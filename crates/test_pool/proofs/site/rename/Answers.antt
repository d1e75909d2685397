use Rattle.test_pool.proofs.Two.{up_free}
use Rattle.test_pool.proofs.site.rename.Goals as goal

pub rename-requires : goal.rename-requires
rename-requires c = record { free = up_free c.args.pool.now.pool c.view.result.now c.args.new c.view.ensures.shown c.in-Up.is }
