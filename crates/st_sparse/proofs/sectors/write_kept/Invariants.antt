use Rattle.std.proofs.Common.{◌≡◌, ◌*◌, ℕ, take}
use Rattle.st_rack.specs.Story.{put_in}
use Rattle.st_sparse.specs.Sectors.{byte_at, is_kept}
use Rattle.st_sparse.proofs.sectors.write_kept.Given as goal

abbrev pub invariant-loop-k : goal.invariant-loop-k
invariant-loop-k l = record {
  bytes : (i : ℕ) → byte_at l.kept i ≡ put_in (512 * l.fn.sector) (take (512 * l.k) l.fn.bytes) (byte_at l.fn.kept) i;
  keys : (s : ℕ) → is_kept l.kept s ≡ is_kept l.fn.kept s;
}
