use Rattle.std.proofs.Common.{◌≡◌, ℕ, take}
use Rattle.st_sparse.specs.Sectors.{byte_at, is_kept}
use Rattle.st_sparse.specs.Since.{content}
use Rattle.st_sparse.proofs.lay.lay_all_in.Given as goal

abbrev pub invariant-loop-i : goal.invariant-loop-i
invariant-loop-i l = record {
  bytes : byte_at l.kept ≡ content l.fn.pick (take l.i l.fn.since) (byte_at l.fn.kept);
  keys : (s : ℕ) → is_kept l.kept s ≡ is_kept l.fn.kept s;
}
