use Rattle.std.proofs.Common.{◌≡◌, ◌++◌, drop}
use Rattle.st_pool.specs.inner.Makings.{new_rows}
use Rattle.st_pool.proofs.beginning.new_rows.Given as goal

abbrev pub invariant-loop-path : goal.invariant-loop-path
invariant-loop-path g l = l.rows ++ new_rows (g.R.Rack.devs l.rack) (drop l.path-index l.devs) ≡ new_rows (g.R.Rack.devs l.rack) l.devs
