use Rattle.std.proofs.Common.{rules}
use Rattle.std.specs.Ordering.{nat_cmp}
use Rattle.std.specs.Cmp.Lexicographic.{slice_cmp}
use Rattle.std.proofs.lemmas.Fn.{always_returns_same}
use Rattle.st_order.proofs.Order.{Searched, searched, found, others, changed, absent, place}
use Rattle.st_order.proofs.sorted.search.Given.{Over}
use Rattle.st_order.proofs.sorted.search.Goals as goal

says : (g : Over) (c : goal.After-binary_search_by g) → Searched g.T.Keyed.text c.args.key.now c.args.items.now c.binary_search_by.result
says g c = searched g.T.Keyed.text c.args.key.now c.args.items.now c.binary_search_by.result c.requires c.binary_search_by.ensures.bound
    (c.binary_search_by.ensures.position (λ y. slice_cmp nat_cmp (g.T.Keyed.text y) c.args.key.now) (always_returns_same _ _ _ (λ a r q k. search rules)))

pub returns-clause-found : goal.returns-clause-found
returns-clause-found g c = found g.T.Keyed.text _ _ _ c.requires (says g c)

pub returns-clause-others : goal.returns-clause-others
returns-clause-others g c = others g.T.Keyed.text _ _ _ c.requires (says g c)

pub returns-clause-absent : goal.returns-clause-absent
returns-clause-absent g c = absent g.T.Keyed.text _ _ _ (says g c)

pub returns-clause-place : goal.returns-clause-place
returns-clause-place g c = place g.T.Keyed.text _ _ _ (says g c)

pub returns-clause-changed : goal.returns-clause-changed
returns-clause-changed g c = changed g.T.Keyed.text _ _ _ c.requires (says g c)
