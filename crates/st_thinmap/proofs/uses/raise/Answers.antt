use Rattle.std.proofs.Common.{◌≡◌, ap, ◌∙◌, arith, List, ◌+◌}
use Rattle.st_thinmap.specs.inner.Uses.{place, count_in}
use Rattle.st_thinmap.specs.inner.Rank.{rank}
use Rattle.st_thinmap.specs.declared.uses.Use.{Use}
use Rattle.st_thinmap.proofs.Table.{rank_in, count_read, raised}
use Rattle.st_thinmap.proofs.uses.raise.Goals as goal

pub index-requires : goal.index-requires
index-requires c =
    let at = c.use_rank-at.ensures.rank ∙ ap (λ (us : List Use). rank place c.args.place us) c.deref.ensures.value in
    omega (arith, rank_in c.args.uses.now.items c.args.place c.use_rank-at.result c.requires.table c.requires.present at, c.args.uses.now.ok.0)

pub overflow_add-count : goal.overflow_add-count
overflow_add-count c =
    let at = c.use_rank-at.ensures.rank ∙ ap (λ (us : List Use). rank place c.args.place us) c.deref.ensures.value in
    let read : c.index.result.now.count ≡ count_in c.args.uses.now.items c.args.place = ap (λ (u : Use). u.count) c.index.ensures ∙ count_read c.args.uses.now.items c.args.place c.use_rank-at.result c.index.result.now c.requires.table c.requires.present at in
    omega (arith, c.requires.small)

pub index_mut-requires : goal.index_mut-requires
index_mut-requires c =
    let at = c.use_rank-at.ensures.rank ∙ ap (λ (us : List Use). rank place c.args.place us) c.deref.ensures.value in
    omega (arith, rank_in c.args.uses.now.items c.args.place c.use_rank-at.result c.requires.table c.requires.present at, c.args.uses.now.ok.0)

pub returns-clause-table : goal.returns-clause-table
returns-clause-table c =
    let at = c.use_rank-at.ensures.rank ∙ ap (λ (us : List Use). rank place c.args.place us) c.deref.ensures.value in
    let read : c.index.result.now.count ≡ count_in c.args.uses.now.items c.args.place = ap (λ (u : Use). u.count) c.index.ensures ∙ count_read c.args.uses.now.items c.args.place c.use_rank-at.result c.index.result.now c.requires.table c.requires.present at in
    (raised c.args.uses.now.items c.args.place c.use_rank-at.result (c.index.result.now.count + 1) c.requires.table c.requires.present at (omega arith)).0

pub returns-clause-counts : goal.returns-clause-counts
returns-clause-counts c =
    let at = c.use_rank-at.ensures.rank ∙ ap (λ (us : List Use). rank place c.args.place us) c.deref.ensures.value in
    let read : c.index.result.now.count ≡ count_in c.args.uses.now.items c.args.place = ap (λ (u : Use). u.count) c.index.ensures ∙ count_read c.args.uses.now.items c.args.place c.use_rank-at.result c.index.result.now c.requires.table c.requires.present at in
    (raised c.args.uses.now.items c.args.place c.use_rank-at.result (c.index.result.now.count + 1) c.requires.table c.requires.present at (omega arith)).1
