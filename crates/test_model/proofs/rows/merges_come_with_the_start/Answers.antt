use Rattle.test_model.proofs.Computed.{merged-at-start}
use Rattle.test_model.proofs.rows.merges_come_with_the_start.Goals as goal

pub returns : goal.returns
returns c = merged-at-start
