use Rattle.st_flexat.proofs.Mapping.{said_mapped}
use Rattle.st_flexat.proofs.laws.what_is_mapped.Goals as goal

pub returns : goal.returns
returns c = said_mapped
