use Rattle.std.proofs.Common.{◌≡◌, ◌++◌, ◌+◌, ◌-◌, ◌≤◌, map, take, drop}
use Rattle.std.specs.Vec.{vec_len, vec_capacity}
use Rattle.st_thinmap.specs.Thin.{with_fs}
use Rattle.st_thinmap.specs.inner.Tied.{Tied}
use Rattle.st_thinmap.proofs.copies.copy_rows.Given as goal

abbrev pub invariant-loop-i : goal.invariant-loop-i
invariant-loop-i l = record {
  rows : l.rows.items ≡ l.fn.rows.items ++ map (with_fs l.fs) (take (l.i - l.start) (drop l.start l.fn.rows.items));
  tied : Tied l.uses.items l.rows.items;
  len : vec_len l.rows ≡ vec_len l.fn.rows + (l.i - l.start);
  capacity : vec_capacity l.fn.rows ≤ vec_capacity l.rows;
}
