use Rattle.std.proofs.Common.{ℕ, ◌%◌, ap, arith}
use Rattle.st_cachetier.proofs.Places.{lies_in}
use Rattle.st_cachetier.proofs.tier.CacheTier.read_copy.Goals as goal

pub read-requires : goal.read-requires
read-requires g c =
    let a = lies_in c.args.self.now c.args.place c.place-number.result c.row-row.result.now c.requires.place c.place-number.ensures.full c.place-number.ensures.at c.row-row.ensures in
    record {
      sectors = c.row-row.result.now.sectors;
      has = c.requires.in_rack a.number c.row-row.result.now a.of;
      whole = ap (λ (n : ℕ). n % 512) c.requires.room;
      some = omega (arith, c.requires.room);
      within = omega (arith, c.requires.room, a.usable, a.sector);
    }
