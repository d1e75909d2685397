use Rattle.st_linear.proofs.Places.{places_apart}
use Rattle.st_linear.proofs.laws.places_differ.Goals as goal

pub returns : goal.returns
returns c = places_apart
