use Rattle.test_model.proofs.Computed.{cache-made-once}
use Rattle.test_model.proofs.rows.the_cache_is_made_once.Goals as goal

pub returns : goal.returns
returns c = cache-made-once
