use Rattle.std.proofs.Common.{Option, refl, sym, ◌∙◌, ap, subst}
use Rattle.st_pool.specs.declared.flight.Flight.{Flight}
use Rattle.st_pool.specs.Halts.{HaltedView}
use Rattle.st_pool.specs.inner.Wakings.{AreLarge, IsUnmade}
use Rattle.st_pool.proofs.vanishing.unmade.Goals as goal

pub empty-requires-clause-sought : goal.empty-requires-clause-sought
empty-requires-clause-sought g c =
    c.requires

pub empty-requires-clause-making : goal.empty-requires-clause-making
empty-requires-clause-making g c =
    subst (λ (f : Option Flight). IsUnmade f) (c.as_ref.ensures.value ∙ ap (λ (v : HaltedView _). v.flight) c.halted.view_is) (c.is_unmade.ensures c.if-not-is_unmade.false)

pub empty-requires-clause-large : goal.empty-requires-clause-large
empty-requires-clause-large g c =
    subst (λ (v : HaltedView _). AreLarge (g.R.Rack.devs v.rack) v.devs) c.halted.view_is (c.are_large.ensures c.if-not-are_large.false)

pub same-halted : goal.same-halted
same-halted g c =
    refl

pub returns-then-not-is_unmade : goal.returns-then-not-is_unmade
returns-then-not-is_unmade g c =
    c.untouched.ensures

pub same-halted-then-not-are_large : goal.same-halted-then-not-are_large
same-halted-then-not-are_large g c =
    refl

pub returns-then-not-are_large : goal.returns-then-not-are_large
returns-then-not-are_large g c =
    c.untouched-then-not-are_large.ensures

pub same-halted-2 : goal.same-halted-2
same-halted-2 g c =
    refl

pub returns : goal.returns
returns g c =
    c.empty.ensures
