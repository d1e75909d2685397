use Rattle.test_model.proofs.Computed.{limits-rise}
use Rattle.test_model.proofs.rows.limits_on_filesystems_rise.Goals as goal

pub returns : goal.returns
returns c = limits-rise
