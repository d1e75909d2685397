use Rattle.st_image.proofs.Unique.{found_after}
use Rattle.st_image.proofs.laws.other_commits.Goals as goal

pub returns : goal.returns
returns c = found_after
