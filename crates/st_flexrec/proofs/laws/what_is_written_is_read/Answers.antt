use Rattle.st_flexrec.proofs.ReadingLemmas.{read_again}
use Rattle.st_flexrec.proofs.laws.what_is_written_is_read.Goals as goal

pub returns : goal.returns
returns c = read_again
