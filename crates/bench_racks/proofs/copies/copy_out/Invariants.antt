use Rattle.std.proofs.Common.{◌≡◌, ◌≤◌, length}
use Rattle.bench_racks.proofs.copies.copy_out.Given as goal

abbrev pub invariant-loop : goal.invariant-loop
invariant-loop l = record {
  within : l.at ≤ length l.fn.block;
  len : length l.buf ≡ length l.fn.buf;
}
