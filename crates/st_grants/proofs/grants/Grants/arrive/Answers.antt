use Rattle.std.proofs.Common.{refl}
use Rattle.st_grants.proofs.Lookups.{ordered_push}
use Rattle.st_grants.proofs.grants.Grants.arrive.Goals as goal

pub invariant_of-self : goal.invariant_of-self
invariant_of-self c = rw c.in-Ok.ensures.items (ordered_push _ _ _ refl c.self.invariant)
