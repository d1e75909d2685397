use Rattle.std.proofs.Common.{◌≡◌, ◌*◌, length, Result, Ok, Err, OnOk, sym, ◌∙◌, ap}
use Rattle.st_rack.specs.Device.{cells, held}
use Rattle.st_ranges.specs.Ranges.{bytes_in}
use Rattle.st_cachetier.specs.Tier.{copy_range}
use Rattle.st_cachetier.proofs.Copies.{has_place}
use Rattle.st_cachetier.proofs.tier.CacheTier.read_block.Goals as goal

ok_then : {A E X : Type 0} (r : Result A E) (x y z : X) → y ≡ z → OnOk r (x ≡ y) → OnOk r (x ≡ z)
ok_then (Ok v) x y z e h = h ∙ e
ok_then (Err v) x y z e h = tt

pub read_copy-requires-clause-place : goal.read_copy-requires-clause-place
read_copy-requires-clause-place g c = has_place c.args.self.now c.args.cell c.in-Some.place c.peek.ensures.cached (sym c.in-Some.ensures.place)

pub returns-in-Some-clause-bytes : goal.returns-in-Some-clause-bytes
returns-in-Some-clause-bytes g c =
    let a = held (g.R.Rack.state_at c.args.rack.now (g.R.Rack.moment c.args.rack.now)) in
    ok_then c.read_copy.result c.read_copy.new.buf (bytes_in a (copy_range c.args.self.now.rows c.in-Some.place)) (bytes_in a (c.args.dev.now, 512 * c.args.sector, 65536))
    (c.requires.copy c.in-Some.place (sym c.in-Some.ensures.place)) c.read_copy.ensures.bytes

pub returns-in-None-clause-bytes : goal.returns-in-None-clause-bytes
returns-in-None-clause-bytes g c =
    let f = (g.R.Rack.state_at c.args.rack.now (g.R.Rack.moment c.args.rack.now) c.args.dev.now).holds in
    ok_then c.read.result c.read.new.buf (cells f (512 * c.args.sector) (length c.args.buf.now)) (cells f (512 * c.args.sector) 65536)
    (ap (cells f (512 * c.args.sector)) c.requires.room) c.read.ensures.bytes
