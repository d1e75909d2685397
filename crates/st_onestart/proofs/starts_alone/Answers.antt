use Rattle.st_onestart.proofs.Starting as starting
use Rattle.st_onestart.proofs.starts_alone.Goals as goal

pub returns : goal.returns
returns c = starting.starts_alone
