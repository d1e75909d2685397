use Rattle.st_image.proofs.Unique.{found_before}
use Rattle.st_image.proofs.laws.same_commits.Goals as goal

pub returns : goal.returns
returns c = found_before
