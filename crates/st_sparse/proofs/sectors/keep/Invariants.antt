use Rattle.std.proofs.Common.{◌≡◌, ◌+◌, ◌<◌, ◌≤◌, ℕ, true}
use Rattle.st_sparse.specs.Sectors.{byte_at, is_kept}
use Rattle.st_sparse.proofs.sectors.keep.Given as goal

abbrev pub invariant-loop-k : goal.invariant-loop-k
invariant-loop-k l = record {
  there : (s : ℕ) → l.fn.sector ≤ s → s < l.fn.sector + l.k → is_kept l.kept s ≡ true;
  bytes : (i : ℕ) → byte_at l.kept i ≡ byte_at l.fn.kept i;
  keys : (s : ℕ) → is_kept l.fn.kept s ≡ true → is_kept l.kept s ≡ true;
}
