use Rattle.st_image.proofs.Committing.{committed_shows}
use Rattle.st_image.proofs.laws.committed_shows.Goals as goal

pub returns : goal.returns
returns c = committed_shows
