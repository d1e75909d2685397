use Rattle.std.proofs.Common.{sym}
use Rattle.st_grants.proofs.Lookups.{free_where, least_of}
use Rattle.st_grants.proofs.grants.Grants.can_grant.Goals as goal

pub returns-in-Some-clause-err : goal.returns-in-Some-clause-err
returns-in-Some-clause-err c =
    let at = rw (← c.self.view_is) at c.row.ensures in
    let found = sym (rw c.deref.ensures.value at c.in-Some.ensures) in
    rw (← c.self.view_is) (least_of _ _ _ _ c.self.invariant at found)

pub returns-in-None-clause-ok : goal.returns-in-None-clause-ok
returns-in-None-clause-ok c =
    let at = rw (← c.self.view_is) at c.row.ensures in
    let found = sym (rw c.deref.ensures.value at c.in-None.ensures) in
    rw (← c.self.view_is) (free_where (record { next = c.self.inside.next; rows = c.self.inside.rows.items }) _ _ at found)
