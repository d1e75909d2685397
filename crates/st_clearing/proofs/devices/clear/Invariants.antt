use Rattle.std.proofs.Common.{◌≡◌, ◌≤◌}
use Rattle.st_rack.specs.Moments.{Goes}
use Rattle.st_clearing.specs.Clearing.{AllClearing}
use Rattle.st_clearing.proofs.Clearings.{Begun}
use Rattle.st_clearing.proofs.devices.clear.Given as goal

abbrev pub invariant-loop-i : goal.invariant-loop-i
invariant-loop-i g l = record {
  devs : g.R.Rack.devs l.rack ≡ g.R.Rack.devs l.fn.rack;
  reads : g.R.Rack.reads l.rack ≡ g.R.Rack.reads l.fn.rack;
  spare : g.R.Rack.spare l.rack ≡ g.R.Rack.spare l.fn.rack;
  faults : g.R.Rack.faults l.fn.rack ≤ g.R.Rack.faults l.rack;
  time : Goes g.R.Rack.moment g.R.Rack.state_at (AllClearing l.devs) l.fn.rack l.rack;
  begun : Begun l.devs l.i (g.R.Rack.state_at l.fn.rack (g.R.Rack.moment l.fn.rack)) (g.R.Rack.state_at l.rack (g.R.Rack.moment l.rack));
}
