use Rattle.std.proofs.Common.{arith, refl}
use Rattle.st_order.proofs.Rising.{never, not_so, steps_rise}
use Rattle.st_order.proofs.sorted.is_rising.Goals as goal

pub returns-then-ne : goal.returns-then-ne
returns-then-ne g c = (
  λ h. absurd (not_so h),
  λ rising. absurd (never g.T.Keyed.text c.args.items.now c.loop-i.i c.index-items-i.result c.index-items-i-in-loop-i.result c.key.result.now c.key-in-loop-i.result.now c.cmp.result c.ne.result rising c.loop-i.auto.i c.loop-i-test.true
      c.index-items-i.is c.index-items-i-in-loop-i.is c.key.ensures c.key-in-loop-i.ensures c.cmp.ensures c.ne.ensures c.if-ne.true),
)

pub returns : goal.returns
returns g c = (λ h. steps_rise g.T.Keyed.text c.args.items.now (λ k d lt. c.loop-i.invariant k d (omega (arith, lt, c.loop-i-test.false))), λ rising. refl)
