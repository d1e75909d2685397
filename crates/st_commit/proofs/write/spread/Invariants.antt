use Rattle.std.proofs.Common.{◌≡◌, ◌≤◌}
use Rattle.st_rack.specs.Moments.{Goes}
use Rattle.st_commit.specs.Ready.{Spares}
use Rattle.st_commit.specs.inner.Spreading.{SettledDone, Spread, SpreadDone, SpreadKnown, KnownDone}
use Rattle.st_commit.proofs.write.spread.Given as goal

abbrev pub invariant-loop-i : goal.invariant-loop-i
invariant-loop-i g l = record {
  devs : g.R.Rack.devs l.rack ≡ g.R.Rack.devs l.fn.rack;
  reads : g.R.Rack.reads l.rack ≡ g.R.Rack.reads l.fn.rack;
  spare : g.R.Rack.spare l.rack ≡ g.R.Rack.spare l.fn.rack;
  faults : g.R.Rack.faults l.fn.rack ≤ g.R.Rack.faults l.rack;
  spares : Goes g.R.Rack.moment g.R.Rack.state_at (Spares l.pool l.generation l.devs) l.fn.rack l.rack;
  others : SpreadKnown g.R.Rack.moment g.R.Rack.state_at l.pool l.devs l.generation l.rec l.fn.rack l.rack;
  known : KnownDone g.R.Rack.moment g.R.Rack.state_at l.pool l.devs l.generation l.rec l.fn.rack l.rack;
  during : Spread g.R.Rack.moment g.R.Rack.state_at l.pool l.devs l.generation l.rec l.fn.rack l.rack;
  done : SpreadDone g.R.Rack.moment g.R.Rack.state_at l.pool l.devs l.generation l.rec l.i l.fn.rack l.rack;
  settled : SettledDone g.R.Rack.moment g.R.Rack.state_at l.devs l.i l.fn.rack l.rack;
}
