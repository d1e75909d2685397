use Rattle.std.proofs.Common.{◌≡◌, List, [], ◌++◌, sym, subst, ap}
use Rattle.st_seg.specs.Blocks.{Block, NoneTwice, blocks_from}
use Rattle.st_seg.specs.Stock.{added}
use Rattle.st_linear.proofs.Devices.{device_apart}
use Rattle.test_leaves.proofs.tiers.stock.Goals as goal

pub add-requires-clause-new : goal.add-requires-clause-new
add-requires-clause-new c =
    let none : added c.make-stock.result ≡ [] = ap added c.make-stock.ensures in
    subst (λ (bs : List Block). NoneTwice (bs ++ blocks_from 0 26 36)) (sym none) (device_apart 0 26 36)
