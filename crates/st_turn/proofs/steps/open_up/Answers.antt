use Rattle.std.proofs.Common.{◌≡◌, ◌⊎◌, [], sym, ◌∙◌, subst}
use Rattle.std.specs.Prelude.{Option, Some, None}
use Rattle.st_turn.specs.Lists.{IsAmong, told_by}
use Rattle.st_turn.specs.Parts.{held}
use Rattle.st_turn.specs.Kinds.{Found}
use Rattle.st_turn.proofs.Ends.{closed_book}
use Rattle.st_turn.proofs.steps.open_up.Goals as goal

pub unreachable-requires : goal.unreachable-requires
unreachable-requires g c =
    let b = g.B.Logged in
    let q = closed_book b.by b.events b.opens b.fits c.args.seat.id c.args.seat.me.0 _ _ c.take-home.result c.requires.out c.requires.alone c.requires.opened c.close_with-closed.ensures.values.2 c.take-home.ensures.value in
    let e : Some q.0 ≡ None = sym q.1 ∙ c.in-None.is in
    cc

pub returns-clause-book : goal.returns-clause-book
returns-clause-book g c =
    let b = g.B.Logged in
    let q = closed_book b.by b.events b.opens b.fits c.args.seat.id c.args.seat.me.0 _ _ c.take-home.result c.requires.out c.requires.alone c.requires.opened c.close_with-closed.ensures.values.2 c.take-home.ensures.value in
    let e : Some q.0 ≡ Some c.in-Some.book = sym q.1 ∙ c.in-Some.is in
    subst (λ (x : Option g.row.B.Denot). Found b.by b.events b.fits c.args.seat.me.0 x) e q.2

pub returns-clause-mine : goal.returns-clause-mine
returns-clause-mine g c =
    let b = g.B.Logged in
    let q = closed_book b.by b.events b.opens b.fits c.args.seat.id c.args.seat.me.0 _ _ c.take-home.result c.requires.out c.requires.alone c.requires.opened c.close_with-closed.ensures.values.2 c.take-home.ensures.value in
    let e : Some q.0 ≡ Some c.in-Some.book = sym q.1 ∙ c.in-Some.is in
    let same : q.0 ≡ c.in-Some.book = cc in
    λ y. subst (λ (z : g.row.B.Denot). IsAmong y (held c.args.seat.me.0.holding) ⊎ (told_by b.by y (b.events z) ≡ [])) same (q.3 y)
