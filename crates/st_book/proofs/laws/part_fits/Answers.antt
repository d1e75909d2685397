use Rattle.st_book.proofs.Released.{part_fits}
use Rattle.st_book.proofs.laws.part_fits.Goals as goal

pub returns : goal.returns
returns c = part_fits
