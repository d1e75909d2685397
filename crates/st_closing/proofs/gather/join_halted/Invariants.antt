use Rattle.std.proofs.Common.{◌≡◌, ◌+◌, length, map}
use Rattle.std.specs.List.{sum_by}
use Rattle.st_pool.specs.Halts.{HaltedView}
use Rattle.st_pool.specs.View.{PoolView}
use Rattle.st_closing.specs.inner.Gathering.{rack_of}
use Rattle.st_closing.proofs.Gathering.{Going}
use Rattle.st_closing.proofs.gather.join_halted.Given as goal

abbrev pub invariant-loop : goal.invariant-loop
invariant-loop g l = record {
  going : Going g.R.Rack.devs g.R.Rack.moment g.R.Rack.state_at g.R.Rack.faults g.R.Rack.spare l.fn.rack (map rack_of l.fn.parts.items) (sum_by (λ (x : HaltedView g.row.R.Denot). x.faults) l.fn.parts.items)
      l.rack (map rack_of l.parts.items) (sum_by (λ (x : HaltedView g.row.R.Denot). x.faults) l.parts.items);
  count : length l.parts.items + l.counter ≡ l.end;
}
