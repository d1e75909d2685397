use Rattle.std.proofs.Common.{◌≡◌, ◌+◌, ◌-◌, ◌*◌, ◌/◌, ◌≤◌, length, Option, refl, ◌∙◌, ap, subst, arith}
use Rattle.st_rack.specs.Device.{cells}
use Rattle.st_rack.proofs.Cells.{length-cells}
use Rattle.st_deltalog.specs.Log.{sectors_of}
use Rattle.st_flexlog.specs.declared.state.FlexState.{FlexState}
use Rattle.st_flexat.specs.inner.Replaying.{ReplayedTo}
use Rattle.st_flexat.proofs.Followed.{nothing_read, state_read}
use Rattle.st_flexat.proofs.read.follow_log.Goals as goal

pub replay-requires-clause-whole : goal.replay-requires-clause-whole
replay-requires-clause-whole g c =
    let flex = c.args.flex.now in
    let begun = c.args.begun.now in
    let f = (g.R.Rack.state_at c.args.rack.now (g.R.Rack.moment c.args.rack.now) c.args.dev.now).holds in
    let sector = flex.area.at + begun.slot * flex.area.slot + c.sectors_of-next.result in
    let count = c.args.generation - begun.generation in
    let are : c.items-2.result.now ≡ cells f (512 * sector) (512 * count) = c.items-2.ensures ∙ c.in_ok-deltas.ensures.bytes in
    omega (arith, ap length are, length-cells f (512 * sector) (512 * count))

pub replay-requires-clause-last : goal.replay-requires-clause-last
replay-requires-clause-last g c =
    let flex = c.args.flex.now in
    let begun = c.args.begun.now in
    let f = (g.R.Rack.state_at c.args.rack.now (g.R.Rack.moment c.args.rack.now) c.args.dev.now).holds in
    let sector = flex.area.at + begun.slot * flex.area.slot + c.sectors_of-next.result in
    let count = c.args.generation - begun.generation in
    let are : c.items-2.result.now ≡ cells f (512 * sector) (512 * count) = c.items-2.ensures ∙ c.in_ok-deltas.ensures.bytes in
    omega (arith, ap length are, length-cells f (512 * sector) (512 * count), c.requires.begins.until, c.ranges.generation.fits)

pub returns-in-None-clause-found : goal.returns-in-None-clause-found
returns-in-None-clause-found g c =
    let flex = c.args.flex.now in
    let begun = c.args.begun.now in
    let f = (g.R.Rack.state_at c.args.rack.now (g.R.Rack.moment c.args.rack.now) c.args.dev.now).holds in
    let next = c.sectors_of-next.result in
    let count = c.args.generation - begun.generation in
    let bytes = c.items-2.result.now in
    let next_is : next ≡ sectors_of begun.body = c.sectors_of-next.ensures ∙ ap sectors_of c.items.ensures in
    let fits : next + count ≤ flex.area.slot = omega (arith, c.if-count-flex.false, next_is, c.requires.begins.fits) in
    let read : ReplayedTo flex.delta begun.generation begun.body bytes (length bytes / 512) c.in_ok-replay.field-0 = c.in_ok-replay.ensures in
    nothing_read flex begun c.args.generation f bytes (flex.area.at + begun.slot * flex.area.slot + next) count next next_is refl fits refl (c.items-2.ensures ∙ c.in_ok-deltas.ensures.bytes)
    (subst (λ (o : Option FlexState). ReplayedTo flex.delta begun.generation begun.body bytes (length bytes / 512) o) c.in-None.is read)

pub returns-clause-found : goal.returns-clause-found
returns-clause-found g c =
    let flex = c.args.flex.now in
    let begun = c.args.begun.now in
    let f = (g.R.Rack.state_at c.args.rack.now (g.R.Rack.moment c.args.rack.now) c.args.dev.now).holds in
    let next = c.sectors_of-next.result in
    let count = c.args.generation - begun.generation in
    let bytes = c.items-2.result.now in
    let next_is : next ≡ sectors_of begun.body = c.sectors_of-next.ensures ∙ ap sectors_of c.items.ensures in
    let fits : next + count ≤ flex.area.slot = omega (arith, c.if-count-flex.false, next_is, c.requires.begins.fits) in
    let read : ReplayedTo flex.delta begun.generation begun.body bytes (length bytes / 512) c.in_ok-replay.field-0 = c.in_ok-replay.ensures in
    state_read flex begun c.args.generation f bytes (flex.area.at + begun.slot * flex.area.slot + next) count next next_is refl fits refl (c.items-2.ensures ∙ c.in_ok-deltas.ensures.bytes) c.in-Some.state c.requires.begins.of_two
    (subst (λ (o : Option FlexState). ReplayedTo flex.delta begun.generation begun.body bytes (length bytes / 512) o) c.in-Some.is read)
