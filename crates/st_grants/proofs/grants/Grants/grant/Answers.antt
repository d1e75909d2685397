use Rattle.st_grants.proofs.Lookups.{ordered_marked}
use Rattle.st_grants.proofs.grants.Grants.grant.Goals as goal

pub invariant_of-self : goal.invariant_of-self
invariant_of-self c = rw c.mark.ensures (ordered_marked _ _ _ c.self.invariant)
