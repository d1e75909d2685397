use Rattle.st_parting.proofs.Parting.{keeps_own}
use Rattle.st_parting.proofs.laws.pools_part.Goals as goal

pub returns : goal.returns
returns c devs s e found k pool at own t part = keeps_own devs s e found k pool at own t part
