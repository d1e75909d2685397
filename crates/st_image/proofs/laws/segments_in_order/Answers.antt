use Rattle.st_image.proofs.Segmented.{taken_in_order}
use Rattle.st_image.proofs.laws.segments_in_order.Goals as goal

pub returns : goal.returns
returns c = taken_in_order 0
