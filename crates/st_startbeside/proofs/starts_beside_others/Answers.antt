use Rattle.st_startbeside.proofs.Starting.{start_beside}
use Rattle.st_startbeside.proofs.starts_beside_others.Goals as goal

pub returns : goal.returns
returns c = start_beside c.keeps_as_the_model.ensures.steps c.beside_others.ensures.destroyed c.beside_others.ensures.renamed
