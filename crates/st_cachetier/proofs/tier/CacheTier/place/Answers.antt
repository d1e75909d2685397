use Rattle.std.proofs.Common.{◌≡◌, ◌<◌, List, length, sym, ◌∙◌, ap, subst, arith}
use Rattle.st_seg.specs.Blocks.{Block}
use Rattle.st_linear.specs.Places.{place_at}
use Rattle.st_linear.proofs.Devices.{length-devices}
use Rattle.st_cachetier.specs.Tier.{Caching, capacity_of, row_blocks, sectors_of}
use Rattle.st_cachetier.proofs.Places.{place_device}
use Rattle.st_cachetier.proofs.tier.CacheTier.place.Goals as goal

pub place-dev-requires : goal.place-dev-requires
place-dev-requires c =
    let low : c.args.place < c.self.inside.map.capacity = subst (λ (t : Caching). c.args.place < t.list.capacity) (sym c.self.view_is) c.requires in
    let long = length-devices (sectors_of c.self.inside.rows) 0 in
    let table : length c.self.inside.table ≡ length (row_blocks c.self.inside.rows) = ap length c.self.invariant.1 in
    omega (arith, low, long, table, c.self.invariant.2)

pub returns-clause-device : goal.returns-clause-device
returns-clause-device c =
    let low : c.args.place < c.self.inside.map.capacity = subst (λ (t : Caching). c.args.place < t.list.capacity) (sym c.self.view_is) c.requires in
    let below : c.args.place < capacity_of c.self.inside.rows = omega (arith, low, c.self.invariant.2) in
    let got = place_device c.self.inside.rows c.args.place c.place-dev.result.0 c.place-dev.result.1 below
    (ap (λ (bs : List Block). place_at bs c.args.place) (sym c.self.invariant.1) ∙ c.place-dev.ensures.place) in
    let here : c.from.result < length c.self.inside.rows = omega (arith, got, c.from.ensures) in
    subst (λ (t : Caching). c.from.result < length t.rows) c.self.view_is here
