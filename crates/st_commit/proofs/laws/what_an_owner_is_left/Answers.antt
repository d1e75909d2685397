use Rattle.st_commit.proofs.Roles.{owned_left}
use Rattle.st_commit.proofs.laws.what_an_owner_is_left.Goals as goal

pub returns : goal.returns
returns x = λ pool flex owns devs first s c head owned leaves. owned_left pool flex owns devs first s c head owned leaves
