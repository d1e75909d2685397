use Rattle.st_model.proofs.Reading.{reads-keep}
use Rattle.st_model.proofs.laws.reads_change_nothing.Goals as goal

pub returns : goal.returns
returns c = reads-keep
