use Rattle.st_wants.proofs.Symmetry.{compatible_comm}
use Rattle.st_wants.proofs.want.compatible_is_symmetric.Goals as goal

pub returns : goal.returns
returns c = compatible_comm
