use Rattle.st_model.proofs.Merging.{merged-whole}
use Rattle.st_step.proofs.laws.merges_keep_pools_whole.Goals as goal

pub returns : goal.returns
returns c = merged-whole
