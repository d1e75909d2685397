use Rattle.std.proofs.Common.{◌≡◌, ◌^◌, ◌≤◌}
use Rattle.st_rack.specs.Device.{held}
use Rattle.st_image.specs.Rack.{greatest_over}
use Rattle.std.specs.Prelude.{◌+◌}
use Rattle.st_assemble.specs.inner.SoFar.{PoolsUpTo, GoneUpTo}
use Rattle.st_assemble.proofs.assemble.found.Given as goal

abbrev pub invariant-loop : goal.invariant-loop
invariant-loop g l = record {
  devs : g.R.Rack.devs l.rack ≡ g.R.Rack.devs l.fn.rack;
  clock : g.R.Rack.moment l.rack ≡ g.R.Rack.moment l.fn.rack;
  states : g.R.Rack.state_at l.rack ≡ g.R.Rack.state_at l.fn.rack;
  spare : g.R.Rack.spare l.rack ≡ g.R.Rack.spare l.fn.rack;
  faults : g.R.Rack.faults l.fn.rack ≤ g.R.Rack.faults l.rack;
  pools : PoolsUpTo (g.R.Rack.devs l.fn.rack) (held (g.R.Rack.state_at l.fn.rack (g.R.Rack.moment l.fn.rack))) l.last l.found.pools;
  gone : GoneUpTo (g.R.Rack.devs l.fn.rack) (held (g.R.Rack.state_at l.fn.rack (g.R.Rack.moment l.fn.rack))) l.last l.found.gone;
  next : l.found.next ≡ greatest_over (g.R.Rack.devs l.fn.rack) (held (g.R.Rack.state_at l.fn.rack (g.R.Rack.moment l.fn.rack))) + 1;
  small : l.last ≤ 2 ^ 48;
  rose : l.counter ≤ l.last;
}
