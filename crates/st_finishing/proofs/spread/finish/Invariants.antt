use Rattle.std.proofs.Common.{◌≡◌, ◌≤◌, ◌<◌, ℕ, Some}
use Rattle.std.specs.List.{slice_get}
use Rattle.st_rack.specs.Device.{Path}
use Rattle.st_rack.specs.Moments.{Keeps}
use Rattle.st_commit.specs.Ready.{IsOf}
use Rattle.st_judge.specs.declared.rows.GoneRow.{GoneRow}
use Rattle.st_finishing.specs.inner.Writing.{IsWritten, WritesRows}
use Rattle.st_finishing.proofs.spread.finish.Given as goal

abbrev pub invariant-loop-i : goal.invariant-loop-i
invariant-loop-i g l = record {
  devs : g.R.Rack.devs l.rack ≡ g.R.Rack.devs l.fn.rack;
  reads : g.R.Rack.reads l.rack ≡ g.R.Rack.reads l.fn.rack;
  spare : g.R.Rack.spare l.rack ≡ g.R.Rack.spare l.fn.rack;
  faults : g.R.Rack.faults l.fn.rack ≤ g.R.Rack.faults l.rack;
  during : Keeps g.R.Rack.moment g.R.Rack.state_at (WritesRows l.gone (g.R.Rack.state_at l.fn.rack (g.R.Rack.moment l.fn.rack))) l.fn.rack l.rack;
  done : (j : ℕ) (row : GoneRow) → j < l.i → slice_get l.gone j ≡ Some row → (d : Path) → IsOf row.devs d → IsWritten row.generation row.rec (g.R.Rack.state_at l.fn.rack (g.R.Rack.moment l.fn.rack) d) (g.R.Rack.state_at l.rack (g.R.Rack.moment l.rack) d);
  untouched : (j : ℕ) (row : GoneRow) → l.i ≤ j → slice_get l.gone j ≡ Some row → (d : Path) → IsOf row.devs d → g.R.Rack.state_at l.rack (g.R.Rack.moment l.rack) d ≡ g.R.Rack.state_at l.fn.rack (g.R.Rack.moment l.fn.rack) d;
}
