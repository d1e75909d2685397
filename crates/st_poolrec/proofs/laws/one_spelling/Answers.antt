use Rattle.st_poolrec.proofs.ReadingLemmas.{same_record}
use Rattle.st_poolrec.proofs.laws.one_spelling.Goals as goal

pub returns : goal.returns
returns c = λ a b x y of_a of_b e. same_record a b x y of_a.fits of_b.fits e
