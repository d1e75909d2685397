use Rattle.std.proofs.Common.{◌≡◌, ◌≤◌}
use Rattle.bench_racks.proofs.racks.write_often.Given as goal

abbrev pub invariant-loop : goal.invariant-loop
invariant-loop g l = record {
  within : l.sector ≤ l.fn.sectors;
  devs : g.R.Rack.devs l.rack ≡ g.R.Rack.devs l.fn.rack;
}
