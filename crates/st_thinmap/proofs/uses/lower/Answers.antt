use Rattle.std.proofs.Common.{◌≡◌, ap, ◌∙◌, sym, arith, List, subst, ℕ, ◌+◌, ◌-◌}
use Rattle.st_thinmap.specs.inner.Uses.{place, count_in, one_if, IsTable}
use Rattle.st_thinmap.specs.inner.Rank.{rank}
use Rattle.st_thinmap.specs.declared.uses.Use.{Use}
use Rattle.st_thinmap.proofs.Table.{rank_in, count_read, lowered, ended}
use Rattle.st_thinmap.proofs.uses.lower.Goals as goal

pub index-requires : goal.index-requires
index-requires c =
    let at = c.use_rank-at.ensures.rank ∙ ap (λ (us : List Use). rank place c.args.place us) c.deref.ensures.value in
    omega (arith, rank_in c.args.uses.now.items c.args.place c.use_rank-at.result c.requires.table c.requires.present at, c.args.uses.now.ok.0)

pub remove-requires : goal.remove-requires
remove-requires c =
    let at = c.use_rank-at.ensures.rank ∙ ap (λ (us : List Use). rank place c.args.place us) c.deref.ensures.value in
    omega (arith, rank_in c.args.uses.now.items c.args.place c.use_rank-at.result c.requires.table c.requires.present at, c.args.uses.now.ok.0)

pub overflow_sub-count : goal.overflow_sub-count
overflow_sub-count c =
    let at = c.use_rank-at.ensures.rank ∙ ap (λ (us : List Use). rank place c.args.place us) c.deref.ensures.value in
    let read : c.index.result.now.count ≡ count_in c.args.uses.now.items c.args.place = ap (λ (u : Use). u.count) c.index.ensures ∙ count_read c.args.uses.now.items c.args.place c.use_rank-at.result c.index.result.now c.requires.table c.requires.present at in
    omega (arith, c.requires.present)

pub index_mut-requires : goal.index_mut-requires
index_mut-requires c =
    let at = c.use_rank-at.ensures.rank ∙ ap (λ (us : List Use). rank place c.args.place us) c.deref.ensures.value in
    omega (arith, rank_in c.args.uses.now.items c.args.place c.use_rank-at.result c.requires.table c.requires.present at, c.args.uses.now.ok.0)

pub returns-then-count-eq1-clause-table : goal.returns-then-count-eq1-clause-table
returns-then-count-eq1-clause-table c =
    let at = c.use_rank-at.ensures.rank ∙ ap (λ (us : List Use). rank place c.args.place us) c.deref.ensures.value in
    let read : c.index.result.now.count ≡ count_in c.args.uses.now.items c.args.place = ap (λ (u : Use). u.count) c.index.ensures ∙ count_read c.args.uses.now.items c.args.place c.use_rank-at.result c.index.result.now c.requires.table c.requires.present at in
    subst (λ (us : List Use). IsTable us) (sym c.remove.ensures.items) (ended c.args.uses.now.items c.args.place c.use_rank-at.result c.requires.table at (omega (arith, c.if-count-eq1.true))).0

pub returns-then-count-eq1-clause-counts : goal.returns-then-count-eq1-clause-counts
returns-then-count-eq1-clause-counts c =
    let at = c.use_rank-at.ensures.rank ∙ ap (λ (us : List Use). rank place c.args.place us) c.deref.ensures.value in
    let read : c.index.result.now.count ≡ count_in c.args.uses.now.items c.args.place = ap (λ (u : Use). u.count) c.index.ensures ∙ count_read c.args.uses.now.items c.args.place c.use_rank-at.result c.index.result.now c.requires.table c.requires.present at in
    subst (λ (us : List Use). (q : ℕ) → count_in us q + one_if c.args.place q ≡ count_in c.args.uses.now.items q) (sym c.remove.ensures.items) (ended c.args.uses.now.items c.args.place c.use_rank-at.result c.requires.table at (omega (arith, c.if-count-eq1.true))).1

pub returns-else-count-eq1-clause-table : goal.returns-else-count-eq1-clause-table
returns-else-count-eq1-clause-table c =
    let at = c.use_rank-at.ensures.rank ∙ ap (λ (us : List Use). rank place c.args.place us) c.deref.ensures.value in
    let read : c.index.result.now.count ≡ count_in c.args.uses.now.items c.args.place = ap (λ (u : Use). u.count) c.index.ensures ∙ count_read c.args.uses.now.items c.args.place c.use_rank-at.result c.index.result.now c.requires.table c.requires.present at in
    (lowered c.args.uses.now.items c.args.place c.use_rank-at.result (c.index.result.now.count - 1) c.requires.table c.requires.present at (omega (arith, c.requires.present)) (omega (arith, c.requires.present, c.if-count-eq1.false))).0

pub returns-else-count-eq1-clause-counts : goal.returns-else-count-eq1-clause-counts
returns-else-count-eq1-clause-counts c =
    let at = c.use_rank-at.ensures.rank ∙ ap (λ (us : List Use). rank place c.args.place us) c.deref.ensures.value in
    let read : c.index.result.now.count ≡ count_in c.args.uses.now.items c.args.place = ap (λ (u : Use). u.count) c.index.ensures ∙ count_read c.args.uses.now.items c.args.place c.use_rank-at.result c.index.result.now c.requires.table c.requires.present at in
    (lowered c.args.uses.now.items c.args.place c.use_rank-at.result (c.index.result.now.count - 1) c.requires.table c.requires.present at (omega (arith, c.requires.present)) (omega (arith, c.requires.present, c.if-count-eq1.false))).1
