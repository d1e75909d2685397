use Rattle.test_model.proofs.Computed.{held-once}
use Rattle.test_model.proofs.rows.names_of_pools_are_held_once.Goals as goal

pub returns : goal.returns
returns c = held-once
