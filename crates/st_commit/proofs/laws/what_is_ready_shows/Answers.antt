use Rattle.st_commit.proofs.Steps.{certain, record_left}
use Rattle.st_commit.proofs.Whole.{based_sure}
use Rattle.st_commit.proofs.laws.what_is_ready_shows.Goals as goal

pub returns-clause-stands : goal.returns-clause-stands
returns-clause-stands x = λ pool flex p up g h devs first old s c head sound ready leaves. certain pool flex p h devs first g head sound s old (based_sure pool flex p up g (h g) old (s first) ready.base) ready.slots c leaves

pub returns-clause-borne : goal.returns-clause-borne
returns-clause-borne x = λ pool g rec s f bears left. record_left pool g rec s f bears left
