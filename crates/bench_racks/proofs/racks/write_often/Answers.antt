use Rattle.std.proofs.Common.{subst, sym, arith}
use Rattle.st_rack.specs.Calls.{Devices, Has}
use Rattle.bench_racks.proofs.racks.write_often.Goals as goal

pub write-requires : goal.write-requires
write-requires g c = record {
  sectors = c.args.sectors;
  has = subst (λ (d : Devices). Has d c.args.dev.now c.args.sectors) (sym c.loop.invariant.devs) c.requires.there;
  whole = c.requires.whole;
  some = omega (arith, c.requires.some);
  within = omega (arith, c.place-sector.ensures, c.requires.whole);
}
