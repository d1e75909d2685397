use Rattle.st_table.proofs.Standing.{all_alike}
use Rattle.st_table.proofs.laws.tells_as_the_model.Goals as goal

pub returns : goal.returns
returns c = all_alike
