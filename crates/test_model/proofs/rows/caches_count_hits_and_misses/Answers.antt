use Rattle.test_model.proofs.Computed.{cache-counts}
use Rattle.test_model.proofs.rows.caches_count_hits_and_misses.Goals as goal

pub returns : goal.returns
returns c = cache-counts
