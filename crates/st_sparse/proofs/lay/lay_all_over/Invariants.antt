use Rattle.std.proofs.Common.{◌≡◌, ◌*◌, length, take, None}
use Rattle.st_rack.specs.Device.{cells}
use Rattle.st_rack.specs.Story.{Content}
use Rattle.st_sparse.specs.Since.{content}
use Rattle.st_sparse.proofs.lay.lay_all_over.Given as goal

abbrev pub invariant-loop-i : goal.invariant-loop-i
invariant-loop-i l = record {
  len : length l.buf ≡ length l.fn.buf;
  bytes : (f : Content) → l.fn.buf ≡ cells f (512 * l.fn.sector) (length l.fn.buf) → l.buf ≡ cells (content None (take l.i l.fn.since) f) (512 * l.fn.sector) (length l.fn.buf);
}
