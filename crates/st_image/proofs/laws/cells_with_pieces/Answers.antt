use Rattle.st_image.proofs.Pieces.{all_pieces}
use Rattle.st_image.proofs.laws.cells_with_pieces.Goals as goal

pub returns : goal.returns
returns c = all_pieces
