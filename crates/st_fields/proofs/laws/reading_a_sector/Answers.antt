use Rattle.st_fields.proofs.Sectors.{sector_of-bytes, sector_of-is}
use Rattle.st_fields.proofs.laws.reading_a_sector.Goals as goal

pub returns-clause-written : goal.returns-clause-written
returns-clause-written c = λ magic g body eight from until short. sector_of-bytes magic g body eight from until short

pub returns-clause-read : goal.returns-clause-read
returns-clause-read c = λ magic bytes x is. sector_of-is magic bytes x is
