use Rattle.std.proofs.Common.{sym, ◌∙◌}
use Rattle.st_meant.proofs.Meaning.{stands_if, unknown}
use Rattle.st_meant.proofs.meant.pool_meant.Goals as goal

pub returns-in-Some : goal.returns-in-Some
returns-in-Some c =
    stands_if c.tells_of_each_pool.ensures.pools c.tells_of_each_pool.ensures.serials c.args.table.now c.args.id.now c.by_info.result c.in-Some.name (sym c.in_ok-name.ensures ∙ c.in-Some.is) c.by_info.ensures

pub returns-in-None : goal.returns-in-None
returns-in-None c =
    λ s valid stands. unknown c.tells_of_each_pool.ensures.pools c.tells_of_each_pool.ensures.serials c.args.table.now s valid stands c.args.id.now (sym c.in_ok-name.ensures ∙ c.in-None.is)
