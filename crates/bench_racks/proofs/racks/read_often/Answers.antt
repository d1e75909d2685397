use Rattle.std.proofs.Common.{◌≡◌, ℕ, ◌%◌, subst, sym, arith}
use Rattle.st_rack.specs.Calls.{Devices, Has}
use Rattle.bench_racks.proofs.racks.read_often.Goals as goal

pub read-requires : goal.read-requires
read-requires g c = record {
  sectors = c.args.sectors;
  has = subst (λ (d : Devices). Has d c.args.dev.now c.args.sectors) (sym c.loop.invariant.devs) c.requires.there;
  whole = subst (λ (n : ℕ). n % 512 ≡ 0) (sym c.loop.invariant.len) c.requires.whole;
  some = omega (arith, c.requires.some, c.loop.invariant.len);
  within = omega (arith, c.place-sector.ensures, c.requires.whole, c.loop.invariant.len);
}
