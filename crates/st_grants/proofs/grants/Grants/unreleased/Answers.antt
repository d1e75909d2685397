use Rattle.std.proofs.Common.{sym}
use Rattle.st_grants.proofs.Lookups.{least_first}
use Rattle.st_grants.proofs.grants.Grants.unreleased.Goals as goal

pub returns-in-Some-clause-some : goal.returns-in-Some-clause-some
returns-in-Some-clause-some c =
    let first = sym (rw c.deref.ensures.value at c.in-Some.ensures.value) in
    rw (← c.self.view_is) (least_first _ _ _ c.self.invariant first)
