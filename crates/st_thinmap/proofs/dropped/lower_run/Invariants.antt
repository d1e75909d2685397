use Rattle.std.proofs.Common.{◌≡◌, ℕ, ◌+◌, ◌≤◌, drop}
use Rattle.std.specs.List.{count_by}
use Rattle.std.specs.Vec.{vec_len, vec_capacity}
use Rattle.st_thinmap.specs.inner.Tied.{lies_at}
use Rattle.st_thinmap.specs.inner.Uses.{IsTable, count_in}
use Rattle.st_thinmap.proofs.dropped.lower_run.Given as goal

abbrev pub invariant-loop-row : goal.invariant-loop-row
invariant-loop-row l = record {
  table : IsTable l.uses.items;
  counts : (q : ℕ) → count_in l.uses.items q + count_by (lies_at q) l.run ≡ count_in l.fn.uses.items q + count_by (lies_at q) (drop l.row-index l.run);
  len : vec_len l.uses ≤ vec_len l.fn.uses;
  capacity : vec_capacity l.fn.uses ≤ vec_capacity l.uses;
}
