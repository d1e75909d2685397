use Rattle.std.proofs.Common.{◌≡◌, ◌+◌, length}
use Rattle.st_dividing.specs.Divided.{Divides}
use Rattle.st_begin.proofs.Rejoining.{StillDivides}
use Rattle.st_begin.proofs.rejoin.join_back.Given as goal

abbrev pub invariant-loop : goal.invariant-loop
invariant-loop g l = record {
  joined : (whole : g.row.R.Denot) → Divides g.R.Rack.devs g.R.Rack.moment g.R.Rack.state_at g.R.Rack.faults g.R.Rack.spare whole l.fn.rack l.fn.parts.items
      → StillDivides g.R.Rack.devs g.R.Rack.moment g.R.Rack.state_at g.R.Rack.faults g.R.Rack.spare whole l.rack l.parts.items;
  count : length l.parts.items + l.counter ≡ l.end;
}
