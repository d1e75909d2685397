use Rattle.st_grants.proofs.Lookups.{ordered_filter}
use Rattle.st_grants.proofs.grants.Grants.release.Goals as goal

pub invariant_of-self : goal.invariant_of-self
invariant_of-self c = rw c.remove_row.ensures (ordered_filter _ _ _ c.self.invariant)
