use Rattle.st_flexrec.proofs.ReadingLemmas.{same_record}
use Rattle.st_flexrec.proofs.laws.one_spelling.Goals as goal

pub returns : goal.returns
returns c = λ a b x y of_a of_b e. same_record a b x y of_a of_b e
