use Rattle.std.proofs.Common.{◌≡◌, ◌+◌, ◌<◌, ◌^◌, true, false, length, map, Some, None, sym, arith}
use Rattle.std.specs.List.{sum_by}
use Rattle.st_wants.specs.declared.row.LockRow.{LockRow}
use Rattle.st_wants.specs.Lock.{row_at}
use Rattle.st_grants.proofs.Sound.{some_and}
use Rattle.st_history.specs.Failures.{failures_of}
use Rattle.st_wants.specs.Wants.{takes_table}
use Rattle.st_book.specs.View.{TableView, lent_at}
use Rattle.st_book.proofs.Released.{stands_back, stands_back_all}
use Rattle.st_book.proofs.book.Book.release.Goals as goal

pub returns-in-Some-clause-stands : goal.returns-in-Some-clause-stands
returns-in-Some-clause-stands g c = λ s base h back spares spare counts.
    let was = c.args.self.now in
    let is : c.args.part.table ≡ Some c.in-Some.table = c.in-Some.is in
    let own = some_and (λ (r : LockRow). r.live ≡ true) (row_at c.args.ticket was.lock.rows) c.requires.live in
    let takes : takes_table own.0.want ≡ true = sym (rw (own.1, is) at c.requires.fitting) in
    let back' = rw (own.1, is) at back in
    let cells = map g.C.Cell.state c.args.part.cells.items in
    let table : TableView = record { state = g.T.Board.stands c.in-Some.table; slack = g.T.Board.slack c.in-Some.table } in
    let number = g.T.Board.fault_count c.in-Some.table + sum_by g.C.Cell.fault_count c.args.part.cells.items in
    stands_back_all s base was _ c.args.ticket own.0 c.args.entries cells table number h own.1 own.2 c.release_all.ensures.lock (rw own.1 at c.release_all.ensures.log) c.release_all.ensures.lent c.release_all.ensures.notes back' (λ k. rw is at (counts k))
    c.release_all.ensures.cells takes c.release_all.ensures.table (c.release_all.ensures.table_info (rw is at spare)) (c.release_all.ensures.infos spares back'.part.pools.apart) (omega (arith, c.release_all.ensures.faults))

pub returns-in-None-clause-stands : goal.returns-in-None-clause-stands
returns-in-None-clause-stands g c = λ s base h back spares spare counts.
    let was = c.args.self.now in
    let is : c.args.part.table ≡ None = c.in-None.is in
    let own = some_and (λ (r : LockRow). r.live ≡ true) (row_at c.args.ticket was.lock.rows) c.requires.live in
    let leaves : takes_table own.0.want ≡ false = sym (rw (own.1, is) at c.requires.fitting) in
    let back' = rw (own.1, is) at back in
    let cells = map g.C.Cell.state c.args.part.cells.items in
    let number = sum_by g.C.Cell.fault_count c.args.part.cells.items in
    let counted : length was.log < 2 ^ 62 → number ≡ lent_at c.args.ticket was.lent + failures_of c.args.entries.items = λ k. let m = rw is at (counts k) in omega (arith, m) in
    stands_back s base was _ c.args.ticket own.0 c.args.entries cells None number h own.1 own.2 c.release_one.ensures.lock (rw own.1 at c.release_one.ensures.log) c.release_one.ensures.lent c.release_one.ensures.notes back' counted
    c.release_one.ensures.cells leaves c.release_one.ensures.table c.release_one.ensures.table_info (c.release_one.ensures.infos spares back'.part.pools.apart) c.release_one.ensures.faults
