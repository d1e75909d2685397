use Rattle.test_model.proofs.Computed.{mappings-end}
use Rattle.test_model.proofs.rows.mappings_end.Goals as goal

pub returns : goal.returns
returns c = mappings-end
