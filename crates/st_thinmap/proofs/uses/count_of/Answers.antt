use Rattle.std.proofs.Common.{arith}
use Rattle.st_thinmap.proofs.Table.{count_found, count_missed}
use Rattle.st_thinmap.proofs.uses.count_of.Goals as goal
use Rattle.st_thinmap.proofs.uses.count_of.Goals.{else-at-uses-via-then-at-uses+else-uses-at, else-at-uses-via-else-at-uses}

pub returns-then-uses-at : goal.returns-then-uses-at
returns-then-uses-at c = count_found c.args.uses.now c.args.place c.use_rank-at.result _ c.requires c.use_rank-at.ensures.rank c.if-at-uses.true c.if-uses-at.true

pub returns-else-at-uses : goal.returns-else-at-uses
returns-else-at-uses c = elim c.else-at-uses.branch [
  | else-at-uses-via-then-at-uses+else-uses-at w ↦ count_missed c.args.uses.now c.args.place c.use_rank-at.result _ c.requires c.use_rank-at.ensures.rank (λ h e. w.if-uses-at.false e)
  | else-at-uses-via-else-at-uses w ↦ count_missed c.args.uses.now c.args.place c.use_rank-at.result (record { place = 0; count = 0 }) c.requires c.use_rank-at.ensures.rank (λ h e. absurd (omega (arith, w.if-at-uses.false)))
]
