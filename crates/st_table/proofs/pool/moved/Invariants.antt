use Rattle.std.proofs.Common.{◌≡◌, ◌++◌, ◌+◌, ◌≤◌, length}
use Rattle.std.specs.Prelude.{vec_capacity}
use Rattle.st_table.proofs.pool.moved.Given as goal

abbrev pub invariant-loop-list : goal.invariant-loop-list
invariant-loop-list l = record {
  items : l.list.items ++ l.paths ≡ l.fn.room.items ++ l.fn.paths;
  fits : length l.list.items + length l.paths ≤ vec_capacity l.list;
  kept : vec_capacity l.fn.room ≤ vec_capacity l.list;
}

abbrev pub decreases-loop-list : goal.decreases-loop-list
decreases-loop-list l = length l.paths
