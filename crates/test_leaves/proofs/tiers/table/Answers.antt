use Rattle.std.proofs.Common.{sym, subst, ap, ◌∙◌}
use Rattle.st_seg.specs.Blocks.{NoneTwice}
use Rattle.st_seg.specs.Stock.{added}
use Rattle.st_seg.proofs.Calls.{added-taking, next_apart}
use Rattle.test_leaves.proofs.tiers.table.Goals as goal

pub extend-requires-clause-apart : goal.extend-requires-clause-apart
extend-requires-clause-apart c =
    let before = subst NoneTwice (ap added c.in_ok-segments.ensures.ok.1 ∙ added-taking c.args.stock.now c.args.blocks) c.in_ok-segments.ensures.apart in
    next_apart c.args.stock.now c.make-table.result _ c.args.blocks (c.requires ∙ sym c.make-table.ensures) c.in_ok-segments.ensures.blocks before
