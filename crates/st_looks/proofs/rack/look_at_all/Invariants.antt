use Rattle.std.proofs.Common.{◌≡◌, ◌≤◌, take, map}
use Rattle.st_rack.specs.Device.{held}
use Rattle.st_looks.specs.Looked.{looked}
use Rattle.st_looks.proofs.rack.look_at_all.Given as goal

abbrev pub invariant-loop-i : goal.invariant-loop-i
invariant-loop-i g l = record {
  devs : g.R.Rack.devs l.rack ≡ g.R.Rack.devs l.fn.rack;
  clock : g.R.Rack.moment l.rack ≡ g.R.Rack.moment l.fn.rack;
  states : g.R.Rack.state_at l.rack ≡ g.R.Rack.state_at l.fn.rack;
  spare : g.R.Rack.spare l.rack ≡ g.R.Rack.spare l.fn.rack;
  faults : g.R.Rack.faults l.fn.rack ≤ g.R.Rack.faults l.rack;
  looks : l.looks ≡ map (looked (held (g.R.Rack.state_at l.fn.rack (g.R.Rack.moment l.fn.rack)))) (take l.i (g.R.Rack.devs l.fn.rack));
}
