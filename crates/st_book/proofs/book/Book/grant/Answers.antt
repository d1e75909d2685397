use Rattle.std.proofs.Common.{◌≡◌, ◌+◌, ◌-◌, ◌<◌, ◌≤◌, false, length, map, vec_len, vec_capacity, cond, refl, ap, ◌∙◌, arith}
use Rattle.std.specs.Prelude.{is_some, option_map}
use Rattle.std.specs.List.{sum_by}
use Rattle.std.proofs.lemmas.List.Edits.{length-remove}
use Rattle.st_wants.specs.declared.row.LockRow.{LockRow}
use Rattle.st_wants.specs.Lock.{row_at}
use Rattle.st_grants.proofs.Sound.{some_and}
use Rattle.st_book.specs.Effects.{cells_given, table_left, table_given, infos_given, table_info_given}
use Rattle.st_wants.specs.Wants.{takes_table}
use Rattle.st_book.specs.View.{TableView, or_zero}
use Rattle.st_book.proofs.Roomed.{kept_granted, waiting_some, left_there, left_viewed, given_viewed, left_and_given, left_kept}
use Rattle.st_book.proofs.Standing.{stands_granted, part_given, part_shown, lent_number}
use Rattle.st_book.proofs.book.Book.grant.Goals as goal

pub overflow_sub-len : goal.overflow_sub-len
overflow_sub-len g c =
    let own = some_and (λ (r : LockRow). r.live ≡ false) (row_at c.args.ticket c.self.inside.grants.rows) (rw (← c.self.view_is) at c.requires) in
    let waits = waiting_some c.args.ticket c.self.inside.grants.rows own.0 own.1 own.2 in
    omega (arith, waits, c.self.invariant.0.spares, c.len.ensures)

pub take_at-cells-requires : goal.take_at-cells-requires
take_at-cells-requires g c =
    let own = some_and (λ (r : LockRow). r.live ≡ false) (row_at c.args.ticket c.self.inside.grants.rows) (rw (← c.self.view_is) at c.requires) in
    let waits = waiting_some c.args.ticket c.self.inside.grants.rows own.0 own.1 own.2 in
    omega (arith, waits, c.self.invariant.0.spares, c.len.ensures)

pub unreachable-requires : goal.unreachable-requires
unreachable-requires g c =
    let own = some_and (λ (r : LockRow). r.live ≡ false) (row_at c.args.ticket c.self.inside.grants.rows) (rw (← c.self.view_is) at c.requires) in
    let waits = waiting_some c.args.ticket c.self.inside.grants.rows own.0 own.1 own.2 in
    omega (arith, waits, c.self.invariant.0.lent, c.in-Err.ensures.full)

pub invariant_of-self : goal.invariant_of-self
invariant_of-self g c =
    let was = c.self.invariant in
    let own = some_and (λ (r : LockRow). r.live ≡ false) (row_at c.args.ticket c.self.inside.grants.rows) (rw (← c.self.view_is) at c.requires) in
    let waits = waiting_some c.args.ticket c.self.inside.grants.rows own.0 own.1 own.2 in
    let want : c.want-want.result.now ≡ own.0.want = rw own.1 at c.want-want.ensures in
    let inside : c.len.result - 1 < length c.self.inside.spares.items = omega (arith, waits, was.0.spares, c.len.ensures) in
    let spares : length c.take_at-cells.new.self.items + 1 ≡ length c.self.inside.spares.items = ap (λ xs. length xs + 1) c.take_at-cells.ensures.items ∙ length-remove c.self.inside.spares.items (c.len.result - 1) inside in
    let spare : length c.self.inside.spares.items ≤ length c.take_at-cells.new.self.items + 1 = omega (arith, spares) in
    let lent : vec_capacity c.self.inside.lent - vec_len c.self.inside.lent ≤ (vec_capacity c.push.new.self - vec_len c.push.new.self) + 1 = omega (arith, c.in-Ok.ensures.capacity, c.in-Ok.ensures.len) in
    let table : c.take_table-table.new.table ≡ table_left own.0.want c.self.inside.table = rw want at c.take_table-table.ensures.home in
    let there : is_some c.take_table-table.new.table ≡ cond (takes_table own.0.want) false (is_some c.self.inside.table) = ap is_some table ∙ left_there own.0.want c.self.inside.table in (
      rw c.grant.ensures (kept_granted c.self.inside.grants c.args.ticket own.0 _ _ _ _ _ _ _ _ _ _ _ _ _ was.0 own.1 own.2 c.in_ok-can_grant.ensures.ok c.put.ensures.room spare lent c.take_cells-cells.ensures.places there),
      was.1,
      (c.take_cells-cells.ensures.kept was.2).1,
      rw table (left_kept g.T.Board.is_kept own.0.want c.self.inside.table was.3),
      c.take_cells-cells.ensures.few,
    )

pub returns-clause-stands : goal.returns-clause-stands
returns-clause-stands g c = λ s base h.
    let h' = rw (← c.self.view_is) at h in
    let own = some_and (λ (r : LockRow). r.live ≡ false) (row_at c.args.ticket c.self.inside.grants.rows) (rw (← c.self.view_is) at c.requires) in
    let want : c.want-want.result.now ≡ own.0.want = rw own.1 at c.want-want.ensures in
    let seat : c.seat-seat.result ≡ own.0.seat = rw own.1 at c.seat-seat.ensures in
    let viewed = λ (t : g.row.T.Denot). let v : TableView = record { state = g.T.Board.stands t; slack = g.T.Board.slack t } in v in
    let out = or_zero (option_map g.T.Board.fault_count c.take_table-table.result) + sum_by g.C.Cell.fault_count c.take_cells-cells.result.items in
    let left : c.take_table-table.new.table ≡ table_left own.0.want c.self.inside.table = rw want at c.take_table-table.ensures.home in
    let given : c.take_table-table.result ≡ table_given own.0.want c.self.inside.table = rw want at c.take_table-table.ensures.part in
    let tables = left_and_given g.T.Board.fault_count own.0.want c.self.inside.table in
    let tables' : or_zero (option_map g.T.Board.fault_count c.take_table-table.new.table) + or_zero (option_map g.T.Board.fault_count c.take_table-table.result) ≡ or_zero (option_map g.T.Board.fault_count c.self.inside.table) = rw (left, given) tables in
    stands_granted s base _ _ c.args.ticket own.0 _ out h' own.1 own.2 c.in_ok-can_grant.ensures.ok c.grant.ensures (rw seat at c.put.ensures.items) (rw want at c.take_cells-cells.ensures.home) refl
    (ap (option_map viewed) left ∙ left_viewed viewed own.0.want c.self.inside.table) refl c.in-Ok.ensures.items refl (rw c.items-2.ensures at c.faults_of-faults.ensures) (omega (arith, tables', c.take_cells-cells.ensures.faults)) c.note.ensures

pub returns-clause-part : goal.returns-clause-part
returns-clause-part g c = λ s base h.
    let h' = rw (← c.self.view_is) at h in
    let own = some_and (λ (r : LockRow). r.live ≡ false) (row_at c.args.ticket c.self.inside.grants.rows) (rw (← c.self.view_is) at c.requires) in
    let want : c.want-want.result.now ≡ own.0.want = rw own.1 at c.want-want.ensures in
    let viewed = λ (t : g.row.T.Denot). let v : TableView = record { state = g.T.Board.stands t; slack = g.T.Board.slack t } in v in
    let given : c.take_table-table.result ≡ table_given own.0.want c.self.inside.table = rw want at c.take_table-table.ensures.part in
    let table : option_map viewed c.take_table-table.result ≡ table_given own.0.want (option_map viewed c.self.inside.table) = ap (option_map viewed) given ∙ given_viewed viewed own.0.want c.self.inside.table in
    let cells : map g.C.Cell.state c.take_cells-cells.result.items ≡ cells_given own.0.want (map g.C.Cell.state c.self.inside.cells.items) = rw want at c.take_cells-cells.ensures.part in
    rw (← c.self.view_is) (rw (own.1, cells, table) (part_given s base _ c.args.ticket own.0 h' own.1 c.in_ok-can_grant.ensures.ok))

pub returns-clause-shown : goal.returns-clause-shown
returns-clause-shown g c = λ whole s base h.
    let h' = rw (← c.self.view_is) at h in
    let own = some_and (λ (r : LockRow). r.live ≡ false) (row_at c.args.ticket c.self.inside.grants.rows) (rw (← c.self.view_is) at c.requires) in
    let want : c.want-want.result.now ≡ own.0.want = rw own.1 at c.want-want.ensures in
    let infos : map g.C.Cell.shows c.show_part-shown.result.infos.items ≡ infos_given own.0.want (map g.C.Cell.shows c.self.inside.infos.items) = rw (want, c.items.ensures) at (c.show_part-shown.ensures.infos whole) in
    let table : option_map g.T.Board.shows c.show_part-shown.result.table_info ≡ table_info_given own.0.want (g.T.Board.shows c.self.inside.table_info) = rw want at (c.show_part-shown.ensures.table whole) in
    rw (← c.self.view_is) (rw (own.1, infos, table) (part_shown s base _ own.0.want h'))

pub returns-clause-due : goal.returns-clause-due
returns-clause-due g c = λ short.
    let own = some_and (λ (r : LockRow). r.live ≡ false) (row_at c.args.ticket c.self.inside.grants.rows) (rw (← c.self.view_is) at c.requires) in
    let want : c.want-want.result.now ≡ own.0.want = rw own.1 at c.want-want.ensures in
    rw (← c.self.view_is) (rw own.1 (rw want at (c.show_part-shown.ensures.due short)))

pub returns-clause-lent : goal.returns-clause-lent
returns-clause-lent g c = λ s base h k.
    let h' = rw (← c.self.view_is) at h in
    let few = rw (← c.self.view_is) at k in
    let own = some_and (λ (r : LockRow). r.live ≡ false) (row_at c.args.ticket c.self.inside.grants.rows) (rw (← c.self.view_is) at c.requires) in
    let want : c.want-want.result.now ≡ own.0.want = rw own.1 at c.want-want.ensures in
    let out = or_zero (option_map g.T.Board.fault_count c.take_table-table.result) + sum_by g.C.Cell.fault_count c.take_cells-cells.result.items in
    let left : c.take_table-table.new.table ≡ table_left own.0.want c.self.inside.table = rw want at c.take_table-table.ensures.home in
    let given : c.take_table-table.result ≡ table_given own.0.want c.self.inside.table = rw want at c.take_table-table.ensures.part in
    let rest = or_zero (option_map g.T.Board.fault_count c.take_table-table.new.table) + sum_by g.C.Cell.fault_count c.take_cells-cells.new.cells.items in
    let tables : or_zero (option_map g.T.Board.fault_count c.take_table-table.new.table) + or_zero (option_map g.T.Board.fault_count c.take_table-table.result) ≡ or_zero (option_map g.T.Board.fault_count c.self.inside.table) = rw (left, given) (left_and_given g.T.Board.fault_count own.0.want c.self.inside.table) in
    rw c.in-Ok.ensures.items (lent_number s base _ c.args.ticket own.0 _ rest out h' own.1 own.2 refl (rw c.items-2.ensures at c.faults_of-faults.ensures) (omega (arith, tables, c.take_cells-cells.ensures.faults)) few)
