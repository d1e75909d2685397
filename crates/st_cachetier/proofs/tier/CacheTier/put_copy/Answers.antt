use Rattle.std.proofs.Common.{◌+◌, ◌*◌, ◌∷◌, [], length, arith, ◌∙◌}
use Rattle.st_rack.specs.Device.{held}
use Rattle.st_ranges.proofs.Working.{on_ok, runs_more}
use Rattle.st_cachetier.specs.Tier.{cache_ranges}
use Rattle.st_cachetier.proofs.Places.{lies_in, part_within, part_covered, put_same}
use Rattle.st_cachetier.proofs.tier.CacheTier.put_copy.Goals as goal

pub overflow_add-sector : goal.overflow_add-sector
overflow_add-sector g c =
    let a = lies_in c.args.self.now c.args.place c.place-number.result c.row-row.result.now c.requires.place c.place-number.ensures.full c.place-number.ensures.at c.row-row.ensures in
    let size = c.place-number.ensures.valid.sizes in
    omega (arith, a.sector, a.usable, c.requires.inside)

pub write_bytes-requires : goal.write_bytes-requires
write_bytes-requires g c =
    let a = lies_in c.args.self.now c.args.place c.place-number.result c.row-row.result.now c.requires.place c.place-number.ensures.full c.place-number.ensures.at c.row-row.ensures in
    part_within c.args.self.now.rows c.args.place c.row-row.result.now c.place-number.result.1 a c.args.offset (length c.args.bytes.now) c.requires.inside (g.R.Rack.devs c.args.rack.now) c.requires.in_rack c.requires.whole c.requires.some

pub returns-clause-time : goal.returns-clause-time
returns-clause-time g c =
    let a = lies_in c.args.self.now c.args.place c.place-number.result c.row-row.result.now c.requires.place c.place-number.ensures.full c.place-number.ensures.at c.row-row.ensures in
    runs_more g.R.Rack.moment g.R.Rack.state_at (cache_ranges c.args.self.now.rows) ((c.row-row.result.now.path, 512 * (c.place-number.result.1 + c.args.offset), length c.args.bytes.now) ∷ []) c.args.rack.now c.write_bytes.new.rack
    (part_covered c.args.self.now.rows c.args.place c.row-row.result.now c.place-number.result.1 a c.args.offset (length c.args.bytes.now) c.requires.inside) c.write_bytes.ensures.time

pub returns-clause-held : goal.returns-clause-held
returns-clause-held g c =
    let M = g.R.Rack.moment in
    let S = g.R.Rack.state_at in
    let a = lies_in c.args.self.now c.args.place c.place-number.result c.row-row.result.now c.requires.place c.place-number.ensures.full c.place-number.ensures.at c.row-row.ensures in
    on_ok c.write_bytes.result _ _
    (λ is. is ∙ put_same c.args.self.now.rows c.args.place c.row-row.result.now c.place-number.result.1 c.args.offset c.args.bytes.now (held (S c.args.rack.now (M c.args.rack.now))) a) c.write_bytes.ensures.held
