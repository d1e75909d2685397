use Rattle.test_model.proofs.Computed.{unwritten-zero}
use Rattle.test_model.proofs.rows.unwritten_sectors_are_zeros.Goals as goal

pub returns : goal.returns
returns c = unwritten-zero
