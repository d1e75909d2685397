use Rattle.st_parting.proofs.Parting.{one_alone}
use Rattle.st_parting.proofs.laws.for_one_alone.Goals as goal

pub returns : goal.returns
returns c devs s e found k pool at p n q has named ne = one_alone devs s e found k pool at p n q has named ne
