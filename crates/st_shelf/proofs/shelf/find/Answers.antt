use Rattle.std.proofs.Common.{ap, sym, ◌∙◌, arith}
use Rattle.std.specs.Str.{bytes_eq}
use Rattle.st_shelf.proofs.Leave.{same_at}
use Rattle.st_shelf.proofs.Look.{found, missed}
use Rattle.st_shelf.proofs.shelf.find.Goals as goal
use Rattle.st_shelf.proofs.shelf.find.Goals.{else-place-devices-via-then-place-devices+else-is_at, else-place-devices-via-else-place-devices}

pub returns-then-is_at : goal.returns-then-is_at
returns-then-is_at g c =
    let path = g.D.Device.path_of in
    let d = c.index-devices-place.result in
    let hit = ap (λ (e : _). bytes_eq (path e) c.args.dev.now) (sym c.index-devices-place.is) ∙ sym c.is_at.ensures ∙ c.if-is_at.true in
    (c.if-place-devices.true, found path g.D.Device.size c.args.devices.now c.args.dev.now c.place_of-place.result c.requires c.place_of-place.ensures.before c.place_of-place.ensures.after d c.if-place-devices.true hit)

pub returns-else-place-devices : goal.returns-else-place-devices
returns-else-place-devices g c =
    let path = g.D.Device.path_of in
    let look = missed path g.D.Device.size c.args.devices.now c.args.dev.now c.place_of-place.result c.requires c.place_of-place.ensures.before c.place_of-place.ensures.after in
    elim c.else-place-devices.branch [
      | else-place-devices-via-then-place-devices+else-is_at w ↦ look (λ d lt.
          ap (λ (e : _). bytes_eq (path e) c.args.dev.now) (same_at c.args.devices.now c.place_of-place.result d w.index-devices-place.result lt ∙ sym w.index-devices-place.is)
          ∙ sym w.is_at.ensures ∙ w.if-is_at.false)
      | else-place-devices-via-else-place-devices w ↦ look (λ d lt. absurd (omega (arith, w.if-place-devices.false, lt)))
    ]
