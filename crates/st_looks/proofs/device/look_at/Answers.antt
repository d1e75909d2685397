use Rattle.std.proofs.Common.{◌≡◌, ℕ, ◌≤◌, Some, sym, ◌∙◌, ap, subst, arith}
use Rattle.st_rack.specs.Device.{Image, held}
use Rattle.st_rack.specs.Calls.{Devices, sectors_of}
use Rattle.st_rack.specs.Story.{Content}
use Rattle.st_slots.specs.Places.{Lies}
use Rattle.st_slots.specs.Reading.{read_slot}
use Rattle.st_slots.specs.declared.spot.Area.{Area}
use Rattle.st_image.specs.Looks.{pool_area}
use Rattle.st_looks.proofs.Looking.{area_lies, is_looked}
use Rattle.st_looks.proofs.device.look_at.Goals as goal

pub read_place-requires-clause-lies : goal.read_place-requires-clause-lies
read_place-requires-clause-lies g c =
    let devs = g.R.Rack.devs c.header_on.new.rack in
    let large : 8192 ≤ c.args.sectors = omega (arith, c.if-sectors-lt-MIN_DEVICE_SECTORS.false) in
    let has : sectors_of devs c.args.dev.now ≡ Some c.args.sectors = ap (λ (ds : Devices). sectors_of ds c.args.dev.now) c.in_ok-header.ensures.devs ∙ c.requires in
    subst (λ (a : Area). Lies devs c.args.dev.now a) (sym c.pool_area.ensures) (area_lies devs c.args.dev.now c.args.sectors has large)

pub read_place-requires-2-clause-lies : goal.read_place-requires-2-clause-lies
read_place-requires-2-clause-lies g c =
    let devs = g.R.Rack.devs c.read_place.new.rack in
    let large : 8192 ≤ c.args.sectors = omega (arith, c.if-sectors-lt-MIN_DEVICE_SECTORS.false) in
    let has : sectors_of devs c.args.dev.now ≡ Some c.args.sectors = ap (λ (ds : Devices). sectors_of ds c.args.dev.now) (c.in_ok-even.ensures.same.devices ∙ c.in_ok-header.ensures.devs) ∙ c.requires in
    subst (λ (a : Area). Lies devs c.args.dev.now a) (sym c.pool_area-2.ensures) (area_lies devs c.args.dev.now c.args.sectors has large)

pub returns-clause-found : goal.returns-clause-found
returns-clause-found g c =
    let M = g.R.Rack.moment in
    let S = g.R.Rack.state_at in
    let dev = c.args.dev.now in
    let large : 8192 ≤ c.args.sectors = omega (arith, c.if-sectors-lt-MIN_DEVICE_SECTORS.false) in
    let image = held (S c.args.rack.now (M c.args.rack.now)) in
    let clock = c.in_ok-header.ensures.clock in
    let states = c.in_ok-header.ensures.states in
    let first : (S c.header_on.new.rack (M c.header_on.new.rack) dev).holds ≡ image dev = (λ j. (states j (clock j) dev).holds) in
    let second : (S c.read_place.new.rack (M c.read_place.new.rack) dev).holds ≡ image dev = (λ j. (c.in_ok-even.ensures.same.states j (c.in_ok-even.ensures.same.clock j) dev).holds) ∙ first in
    is_looked image dev c.in_ok-path.path c.args.sectors c.in_ok-header.header c.in_ok-even.even c.in_ok-odd.odd large c.in_ok-path.ensures c.in_ok-header.ensures.found
    (c.in_ok-even.ensures.found ∙ (λ j. read_slot (c.pool_area.ensures j) 0 (first j)))
    (c.in_ok-odd.ensures.found ∙ (λ j. read_slot (c.pool_area-2.ensures j) 1 (second j)))
