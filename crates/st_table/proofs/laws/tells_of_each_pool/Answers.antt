use Rattle.st_table.proofs.Followed.{pools_told, users_told, infos_told}
use Rattle.st_table.proofs.Placed.{serials_told}
use Rattle.st_table.proofs.laws.tells_of_each_pool.Goals as goal

pub returns-clause-pools : goal.returns-clause-pools
returns-clause-pools c = pools_told

pub returns-clause-users : goal.returns-clause-users
returns-clause-users c = users_told

pub returns-clause-infos : goal.returns-clause-infos
returns-clause-infos c = infos_told

pub returns-clause-serials : goal.returns-clause-serials
returns-clause-serials c = serials_told
