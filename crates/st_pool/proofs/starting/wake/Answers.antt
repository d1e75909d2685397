use Rattle.std.proofs.Common.{Option, refl, ◌∙◌, ap, subst}
use Rattle.st_pool.specs.declared.flight.Flight.{Flight}
use Rattle.st_pool.specs.Halts.{HaltedView}
use Rattle.st_pool.specs.inner.Wakings.{IsTold}
use Rattle.st_pool.proofs.starting.wake.Goals as goal

pub raise-requires-clause-sought : goal.raise-requires-clause-sought
raise-requires-clause-sought g c =
    c.requires

pub raise-requires-clause-told : goal.raise-requires-clause-told
raise-requires-clause-told g c =
    subst (λ (f : Option Flight). IsTold f c.args.books c.in-Some.env) (c.as_ref.ensures.value ∙ ap (λ (v : HaltedView _). v.flight) c.halted.view_is) c.in-Some.ensures

pub returns-in-None : goal.returns-in-None
returns-in-None g c =
    c.untouched.ensures

pub returns-in-Some : goal.returns-in-Some
returns-in-Some g c =
    c.raise.ensures

pub same-halted : goal.same-halted
same-halted g c =
    refl

pub same-halted-in-Some : goal.same-halted-in-Some
same-halted-in-Some g c =
    refl
