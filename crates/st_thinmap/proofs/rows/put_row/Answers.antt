use Rattle.std.proofs.Common.{◌≡◌, List, Some, None, sym, ap, ◌∙◌, arith}
use Rattle.std.specs.List.{insert}
use Rattle.std.proofs.Common.{set}
use Rattle.st_thinmap.specs.declared.mapping.Mapping.{Mapping}
use Rattle.st_thinmap.specs.Order.{key, key_of, item_at}
use Rattle.st_thinmap.specs.inner.Rank.{rank}
use Rattle.st_thinmap.proofs.Rising.{found-in}
use Rattle.st_thinmap.proofs.Puts.{put-new, put-over}
use Rattle.st_thinmap.proofs.rows.put_row.Goals as goal

pub index_mut-requires : goal.index_mut-requires
index_mut-requires c =
    let rows = c.args.rows.now.items in
    let k = key_of c.args.mapping.fs c.args.mapping.block in
    let old : item_at key k rows ≡ Some c.in-Some.field-0 = sym (c.find_row-old.ensures ∙ ap (λ (xs : List Mapping). item_at key k xs) c.deref.ensures.value) ∙ c.in-Some.is in
    omega (arith, c.row_rank-at.ensures.rank ∙ ap (λ (xs : List Mapping). rank key k xs) c.deref-2.ensures.value, found-in key 0 k rows c.in-Some.field-0 c.requires.order old, c.args.rows.now.ok.0)

pub returns-in-Some-clause-rows : goal.returns-in-Some-clause-rows
returns-in-Some-clause-rows c =
    let rows = c.args.rows.now.items in
    let k = key_of c.args.mapping.fs c.args.mapping.block in
    let old : item_at key k rows ≡ Some c.in-Some.field-0 = sym (c.find_row-old.ensures ∙ ap (λ (xs : List Mapping). item_at key k xs) c.deref.ensures.value) ∙ c.in-Some.is in
    let at = c.row_rank-at.ensures.rank ∙ ap (λ (xs : List Mapping). rank key k xs) c.deref-2.ensures.value in
    ap (λ i. set rows i c.args.mapping) at ∙ sym (put-over c.args.mapping c.in-Some.field-0 0 rows c.requires.order old)

pub returns-in-None-clause-rows : goal.returns-in-None-clause-rows
returns-in-None-clause-rows c =
    let rows = c.args.rows.now.items in
    let k = key_of c.args.mapping.fs c.args.mapping.block in
    let old : item_at key k rows ≡ None = sym (c.find_row-old.ensures ∙ ap (λ (xs : List Mapping). item_at key k xs) c.deref.ensures.value) ∙ c.in-None.is in
    let at = c.row_rank-at.ensures.rank ∙ ap (λ (xs : List Mapping). rank key k xs) c.deref-2.ensures.value in
    c.insert_row.ensures.rows ∙ ap (λ i. insert rows i c.args.mapping) at ∙ sym (put-new c.args.mapping 0 rows c.requires.order old)
