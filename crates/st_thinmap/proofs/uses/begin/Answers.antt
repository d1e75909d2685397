use Rattle.std.proofs.Common.{ap, ◌∙◌, List}
use Rattle.st_thinmap.specs.inner.Uses.{place}
use Rattle.st_thinmap.specs.inner.Rank.{rank}
use Rattle.st_thinmap.specs.declared.uses.Use.{Use}
use Rattle.st_thinmap.proofs.Table.{begun}
use Rattle.st_thinmap.proofs.uses.begin.Goals as goal

pub returns-clause-table : goal.returns-clause-table
returns-clause-table c =
    let at = c.use_rank-at.ensures.rank ∙ ap (λ (us : List Use). rank place c.args.place us) c.deref.ensures.value in
    (begun c.args.uses.now.items _ c.args.place c.use_rank-at.result c.requires.table at c.requires.absent c.in-Ok.ensures.items).0

pub returns-clause-counts : goal.returns-clause-counts
returns-clause-counts c =
    let at = c.use_rank-at.ensures.rank ∙ ap (λ (us : List Use). rank place c.args.place us) c.deref.ensures.value in
    (begun c.args.uses.now.items _ c.args.place c.use_rank-at.result c.requires.table at c.requires.absent c.in-Ok.ensures.items).1
