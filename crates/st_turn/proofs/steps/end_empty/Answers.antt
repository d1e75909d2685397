use Rattle.std.proofs.Common.{◌≡◌, sym, ◌∙◌, refl}
use Rattle.std.specs.Prelude.{Option, Some, None}
use Rattle.st_turn.proofs.Ends.{closed_empty}
use Rattle.st_turn.proofs.steps.end_empty.Goals as goal

pub unreachable-requires : goal.unreachable-requires
unreachable-requires g c =
    let b = g.B.Logged in
    let q = closed_empty b.by b.events b.opens b.fits c.args.seat.id c.args.seat.me.0 _ _ c.take-home.result (rw c.requires.blank refl) (rw c.requires.blank refl) (rw c.requires.blank refl) c.close_with-closed.ensures.values.2 c.take-home.ensures.value in
    let e : None ≡ Some c.in-Some._book = sym q ∙ c.in-Some.is in
    cc
