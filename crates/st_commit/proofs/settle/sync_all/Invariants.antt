use Rattle.std.proofs.Common.{◌≡◌, ◌≤◌, ◌<◌, ℕ, Some}
use Rattle.std.specs.List.{slice_get}
use Rattle.st_rack.specs.Device.{Path}
use Rattle.st_rack.specs.Moments.{Goes}
use Rattle.st_deltalog.specs.Bearing.{IsSettled}
use Rattle.st_commit.specs.Ready.{Settles}
use Rattle.st_commit.proofs.settle.sync_all.Given as goal

abbrev pub invariant-loop-i : goal.invariant-loop-i
invariant-loop-i g l = record {
  devs : g.R.Rack.devs l.rack ≡ g.R.Rack.devs l.fn.rack;
  reads : g.R.Rack.reads l.rack ≡ g.R.Rack.reads l.fn.rack;
  spare : g.R.Rack.spare l.rack ≡ g.R.Rack.spare l.fn.rack;
  faults : g.R.Rack.faults l.fn.rack ≤ g.R.Rack.faults l.rack;
  time : Goes g.R.Rack.moment g.R.Rack.state_at Settles l.fn.rack l.rack;
  settled : (j : ℕ) (d : Path) → j < l.i → slice_get l.devs j ≡ Some d → IsSettled (g.R.Rack.state_at l.rack (g.R.Rack.moment l.rack) d);
  untouched : (j : ℕ) (d : Path) → l.i ≤ j → slice_get l.devs j ≡ Some d → g.R.Rack.state_at l.rack (g.R.Rack.moment l.rack) d ≡ g.R.Rack.state_at l.fn.rack (g.R.Rack.moment l.fn.rack) d;
}
