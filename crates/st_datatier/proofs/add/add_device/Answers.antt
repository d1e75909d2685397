use Rattle.std.proofs.Common.{◌≡◌, length, ap, ◌∙◌, arith}
use Rattle.st_seg.specs.Stock.{added}
use Rattle.st_seg.proofs.Calls.{added-adding}
use Rattle.st_datatier.proofs.Growing.{blocks_pushed, pushed_apart}
use Rattle.st_datatier.proofs.add.add_device.Goals as goal

pub add-requires-clause-new : goal.add-requires-clause-new
add-requires-clause-new c =
    let dev : c.len-dev.result ≡ length c.args.sectors.now.items = omega (arith, c.len-dev.ensures, c.args.sectors.now.ok.0) in
    let pushed = blocks_pushed c.args.sectors.now.items c.args.size (added c.args.free.now) c.len-dev.result c.first_block-first.result c.usable_blocks.result c.requires.sizes c.requires.blocks dev c.first_block-first.ensures c.usable_blocks.ensures in
    pushed_apart c.args.sectors.now.items c.args.size _ pushed

pub returns-clause-blocks : goal.returns-clause-blocks
returns-clause-blocks c =
    let dev : c.len-dev.result ≡ length c.args.sectors.now.items = omega (arith, c.len-dev.ensures, c.args.sectors.now.ok.0) in
    let pushed = blocks_pushed c.args.sectors.now.items c.args.size (added c.args.free.now) c.len-dev.result c.first_block-first.result c.usable_blocks.result c.requires.sizes c.requires.blocks dev c.first_block-first.ensures c.usable_blocks.ensures in
    ap added c.in_ok-add.ensures.ok ∙ (added-adding c.args.free.now _ ∙ pushed)
