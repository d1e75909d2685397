use Rattle.std.proofs.Common.{◌≡◌, ◌+◌, ◌≤◌, ◌<◌, ℕ, Some, length}
use Rattle.std.specs.List.{slice_get}
use Rattle.st_fields.specs.Slot.{padded}
use Rattle.st_rack.specs.Device.{Path}
use Rattle.st_rack.specs.Moments.{Keeps}
use Rattle.st_finishing.specs.inner.Writing.{IsWritten, WritesOn}
use Rattle.st_finishing.proofs.spread.write_all.Given as goal

abbrev pub invariant-loop-i : goal.invariant-loop-i
invariant-loop-i g l = record {
  devs : g.R.Rack.devs l.rack ≡ g.R.Rack.devs l.fn.rack;
  reads : g.R.Rack.reads l.rack ≡ g.R.Rack.reads l.fn.rack;
  spare : g.R.Rack.spare l.rack ≡ g.R.Rack.spare l.fn.rack;
  faults : g.R.Rack.faults l.fn.rack ≤ g.R.Rack.faults l.rack;
  room : length l.work ≡ padded (64 + length l.row.rec);
  during : Keeps g.R.Rack.moment g.R.Rack.state_at (WritesOn l.row.generation l.row.rec l.row.devs (g.R.Rack.state_at l.fn.rack (g.R.Rack.moment l.fn.rack))) l.fn.rack l.rack;
  done : (j : ℕ) (d : Path) → j < l.i → slice_get l.row.devs j ≡ Some d → IsWritten l.row.generation l.row.rec (g.R.Rack.state_at l.fn.rack (g.R.Rack.moment l.fn.rack) d) (g.R.Rack.state_at l.rack (g.R.Rack.moment l.rack) d);
  untouched : (j : ℕ) (d : Path) → l.i ≤ j → slice_get l.row.devs j ≡ Some d → g.R.Rack.state_at l.rack (g.R.Rack.moment l.rack) d ≡ g.R.Rack.state_at l.fn.rack (g.R.Rack.moment l.fn.rack) d;
}
