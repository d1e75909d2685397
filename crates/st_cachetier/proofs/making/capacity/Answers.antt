use Rattle.std.proofs.Common.{◌+◌, sym, ap, ap₂, ◌∙◌, arith}
use Rattle.std.proofs.lemmas.List.{take_all}
use Rattle.st_cachetier.specs.Tier.{capacity_of}
use Rattle.st_cachetier.proofs.Blocks.{one_more_sum, row_size}
use Rattle.st_cachetier.proofs.making.capacity.Goals as goal

pub overflow_add-sum : goal.overflow_add-sum
overflow_add-sum c =
    let s = row_size c.args.rows.now c.loop-row.row-index c.row-item.result c.requires (omega arith) c.row-item.is in
    omega (arith, c.loop-row.invariant.high, s.1, c.usable_blocks-sum.ensures, c.requires.few)

pub loop-row-preserved : goal.loop-row-preserved
loop-row-preserved c =
    let i = c.loop-row.invariant in
    let s = row_size c.args.rows.now c.loop-row.row-index c.row-item.result c.requires (omega arith) c.row-item.is in
    record {
      sum = ap₂ (λ m n. m + n) i.sum c.usable_blocks-sum.ensures ∙ sym (one_more_sum c.args.rows.now c.loop-row.row-index c.row-item.result (omega arith) c.row-item.is);
      low = omega (arith, i.low, s.0, c.usable_blocks-sum.ensures);
      high = omega (arith, i.high, s.1, c.usable_blocks-sum.ensures);
    }

pub returns-clause-capacity : goal.returns-clause-capacity
returns-clause-capacity c = c.loop-row.invariant.sum ∙ ap capacity_of (take_all c.loop-row.row-index c.args.rows.now (omega arith))

pub returns-clause-some : goal.returns-clause-some
returns-clause-some c = omega (arith, c.loop-row.invariant.low, c.requires.some)
