use Rattle.st_header.proofs.Headers.{written}
use Rattle.st_header.proofs.laws.what_is_written_is_read.Goals as goal

pub returns : goal.returns
returns c = λ sectors n area size le number. written sectors n area size le number
