use Rattle.std.proofs.Common.{Option, refl, ◌∙◌, ap, subst}
use Rattle.st_pool.specs.declared.flight.Flight.{Flight}
use Rattle.st_pool.specs.Halts.{HaltedView}
use Rattle.st_pool.specs.inner.Wakings.{IsEnded}
use Rattle.st_pool.proofs.vanishing.ended.Goals as goal

pub bury-requires-clause-sought : goal.bury-requires-clause-sought
bury-requires-clause-sought g c =
    c.requires

pub returns-then-ends : goal.returns-then-ends
returns-then-ends g c =
    c.bury.ensures

pub returns-else-ends : goal.returns-else-ends
returns-else-ends g c =
    c.untouched.ensures

pub same-halted : goal.same-halted
same-halted g c =
    refl

pub same-halted-else-ends : goal.same-halted-else-ends
same-halted-else-ends g c =
    refl

pub bury-requires-clause-ended : goal.bury-requires-clause-ended
bury-requires-clause-ended g c =
    subst (λ (f : Option Flight). IsEnded f c.args.generation) (c.as_ref.ensures.value ∙ ap (λ (v : HaltedView _). v.flight) c.halted.view_is) (c.ends.ensures c.if-ends.true)
