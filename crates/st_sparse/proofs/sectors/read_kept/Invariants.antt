use Rattle.std.proofs.Common.{◌≡◌, ◌*◌, length, take}
use Rattle.st_rack.specs.Device.{cells}
use Rattle.st_sparse.specs.Sectors.{byte_at}
use Rattle.st_sparse.proofs.sectors.read_kept.Given as goal

abbrev pub invariant-loop-k : goal.invariant-loop-k
invariant-loop-k l = record {
  len : length l.buf ≡ length l.fn.buf;
  front : take (512 * l.k) l.buf ≡ cells (byte_at l.fn.kept) (512 * l.fn.sector) (512 * l.k);
}
