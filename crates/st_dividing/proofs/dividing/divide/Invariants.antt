use Rattle.std.proofs.Common.{◌≡◌, ◌+◌, ◌≤◌, ℕ, Some, length}
use Rattle.std.specs.List.{slice_get}
use Rattle.st_judge.specs.declared.rows.FoundRow.{FoundRow}
use Rattle.st_pool.specs.Halts.{HaltedView}
use Rattle.st_dividing.specs.Divided.{Divides, found_as}
use Rattle.st_dividing.proofs.dividing.divide.Given as goal

abbrev pub invariant-loop-i : goal.invariant-loop-i
invariant-loop-i g l = record {
  divides : Divides g.R.Rack.devs g.R.Rack.moment g.R.Rack.state_at g.R.Rack.faults g.R.Rack.spare l.fn.rack l.rack l.parts.items;
  told : (k : ℕ) (row : FoundRow) (h : HaltedView g.row.R.Denot) → slice_get l.pools k ≡ Some row → slice_get l.parts.items k ≡ Some h → h ≡ found_as (g.R.Rack.devs l.fn.rack) row h.rack;
  counted : length l.parts.items ≡ l.i;
  room : l.fn.parts.room ≤ l.parts.room + length l.parts.items;
}
