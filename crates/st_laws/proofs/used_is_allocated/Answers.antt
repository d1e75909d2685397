use Rattle.st_laws.proofs.Engine.{used-is-allocated}
use Rattle.st_laws.proofs.used_is_allocated.Goals as goal

pub returns : goal.returns
returns c = used-is-allocated
