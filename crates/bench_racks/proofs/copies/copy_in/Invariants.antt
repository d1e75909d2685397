use Rattle.std.proofs.Common.{◌≡◌, ◌≤◌, length}
use Rattle.bench_racks.proofs.copies.copy_in.Given as goal

abbrev pub invariant-loop : goal.invariant-loop
invariant-loop l = record {
  within : l.at ≤ length l.block;
  len : length l.block ≡ length l.fn.block;
}
