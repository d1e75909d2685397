use Rattle.std.proofs.Common.{rules}
use Rattle.std.proofs.lemmas.List.Sorted.{answers_always}
use Rattle.st_flexrec.proofs.Orders.{rises_by_neighbours}
use Rattle.st_flexrec.proofs.order.rises.Goals as goal

pub returns : goal.returns
returns g c =
    rises_by_neighbours g.R.InOrder.comes_before (record { on = g.met.R.InOrder.goes_on }) c.args.rows.now c.is_sorted_by.result
    (c.is_sorted_by.ensures.cases g.R.InOrder.comes_before (answers_always _ _ _ (λ f a r q k. search rules)))
