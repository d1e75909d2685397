use Rattle.std.proofs.Common.{get_or, ap, sym, ◌∙◌, arith}
use Rattle.st_rack.specs.Device.{Path}
use Rattle.st_shelf.specs.Shelf.{comes_before}
use Rattle.st_shelf.proofs.Leave.{same_at}
use Rattle.st_shelf.proofs.Come.{insert-place}
use Rattle.st_shelf.proofs.shelf.place_for.Goals as goal

pub returns-else-is_before-clause-items : goal.returns-else-is_before-clause-items
returns-else-is_before-clause-items g c = λ d is.
    let path = g.D.Device.path_of in
    insert-place path c.args.devices.now c.loop-place.place d d c.loop-place.invariant.within
    (λ k less. ap (λ (p : Path). comes_before (path (get_or c.args.devices.now k d)) p) is ∙ c.loop-place.invariant.before k d less)
    (λ lt.
    ap (λ (p : Path). comes_before (path (get_or c.args.devices.now c.loop-place.place d)) p) is
    ∙ ap (λ (e : _). comes_before (path e) c.args.dev.now) (same_at c.args.devices.now c.loop-place.place d c.index-devices-place.result lt ∙ sym c.index-devices-place.is)
    ∙ ap (λ (p : Path). comes_before p c.args.dev.now) (sym c.path.ensures) ∙ sym c.is_before.ensures ∙ c.if-is_before.false)

pub returns-after-loop-place-clause-items : goal.returns-after-loop-place-clause-items
returns-after-loop-place-clause-items g c = λ d is.
    let path = g.D.Device.path_of in
    insert-place path c.args.devices.now c.loop-place.place d d c.loop-place.invariant.within
    (λ k less. ap (λ (p : Path). comes_before (path (get_or c.args.devices.now k d)) p) is ∙ c.loop-place.invariant.before k d less)
    (λ lt. absurd (omega (arith, lt, c.loop-place-test.false)))
