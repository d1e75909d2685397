use Rattle.std.proofs.Common.{◌≡◌, length}
use Rattle.bench_commit.proofs.plain.hash_and_copy.Given as goal

abbrev pub invariant-loop : goal.invariant-loop
invariant-loop l = record {
  log_len : length l.log_text ≡ length l.fn.log_text;
  len : length l.text ≡ length l.fn.text;
}
