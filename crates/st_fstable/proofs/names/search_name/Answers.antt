use Rattle.std.proofs.Common.{rules, ℕ}
use Rattle.std.specs.Ordering.{nat_cmp}
use Rattle.std.specs.Cmp.Lexicographic.{slice_cmp}
use Rattle.std.proofs.lemmas.Fn.{always_returns_same}
use Rattle.st_order.proofs.Order.{Searched, searched, found, others, absent, place}
use Rattle.st_fstable.specs.inner.ByName.{name_at}
use Rattle.st_fstable.proofs.names.search_name.Goals as goal

says : (c : goal.After-binary_search_by) → Searched (name_at c.args.rows.now) c.args.name.now c.args.names.now c.binary_search_by.result
says c = searched (name_at c.args.rows.now) c.args.name.now c.args.names.now c.binary_search_by.result c.requires.rising c.binary_search_by.ensures.bound
    (c.binary_search_by.ensures.position (λ (s : ℕ). slice_cmp nat_cmp (name_at c.args.rows.now s) c.args.name.now) (always_returns_same _ _ _ (λ a r q k. search rules)))

pub returns-clause-found : goal.returns-clause-found
returns-clause-found c = found (name_at c.args.rows.now) _ _ _ c.requires.rising (says c)

pub returns-clause-others : goal.returns-clause-others
returns-clause-others c = others (name_at c.args.rows.now) _ _ _ c.requires.rising (says c)

pub returns-clause-absent : goal.returns-clause-absent
returns-clause-absent c = absent (name_at c.args.rows.now) _ _ _ (says c)

pub returns-clause-place : goal.returns-clause-place
returns-clause-place c = place (name_at c.args.rows.now) _ _ _ (says c)
