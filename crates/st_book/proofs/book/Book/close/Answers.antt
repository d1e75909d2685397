use Rattle.std.proofs.Common.{◌≡◌, Some}
use Rattle.st_book.proofs.Standing.{part_at_close, faults_at_close}
use Rattle.st_book.proofs.book.Book.close.Goals as goal

pub returns-clause-stands : goal.returns-clause-stands
returns-clause-stands g c = λ s base h.
    let h' = rw (← c.self.view_is) at h in
    let is : c.self.inside.table ≡ Some c.in-Some-table.table = c.in-Some-table.is in
    let quiet = c.in_default.ensures.none in
    (rw is at (part_at_close s base _ h' quiet), rw is at h'.slack, λ k. rw is at (faults_at_close s base _ h' quiet k))
