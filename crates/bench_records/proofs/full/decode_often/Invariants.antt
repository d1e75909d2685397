use Rattle.std.proofs.Common.{◌≤◌}
use Rattle.bench_records.proofs.full.decode_often.Given as goal

abbrev pub invariant-loop : goal.invariant-loop
invariant-loop l = l.read ≤ l.counter
