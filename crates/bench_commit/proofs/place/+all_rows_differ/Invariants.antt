use Rattle.std.proofs.Common.{length}
use Rattle.bench_commit.proofs.place.+all_rows_differ.Given as goal

abbrev pub decreases-all_rows_differ : goal.decreases-all_rows_differ
decreases-all_rows_differ l = length l.rows.now
