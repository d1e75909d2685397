use Rattle.std.proofs.Common.{◌≡◌, ◌≤◌, length}
use Rattle.bench_racks.proofs.racks.read_often.Given as goal

abbrev pub invariant-loop : goal.invariant-loop
invariant-loop g l = record {
  within : l.sector ≤ l.fn.sectors;
  len : length l.buf ≡ length l.fn.buf;
  devs : g.R.Rack.devs l.rack ≡ g.R.Rack.devs l.fn.rack;
}
