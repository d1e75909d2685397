use Rattle.std.proofs.Common.{◌≡◌, ◌-◌, ◌≤◌, true, vec_len, vec_capacity, arith}
use Rattle.st_wants.specs.declared.row.LockRow.{LockRow}
use Rattle.st_wants.specs.Lock.{row_at}
use Rattle.st_grants.proofs.Sound.{some_and}
use Rattle.st_wants.specs.Wants.{takes_table}
use Rattle.st_book.proofs.Roomed.{kept_released, placed_back}
use Rattle.st_book.proofs.book.Book.release_all.Goals as goal

pub invariant_of-self : goal.invariant_of-self
invariant_of-self g c =
    let was = c.self.invariant in
    let own = some_and (λ (r : LockRow). r.live ≡ true) (row_at c.args.ticket c.self.inside.grants.rows) (rw (← c.self.view_is) at c.requires.live) in
    let takes : takes_table own.0.want ≡ true = rw own.1 at (rw (← c.self.view_is) at c.requires.takes) in
    let lent : vec_capacity c.self.inside.lent - vec_len c.self.inside.lent ≤ vec_capacity c.forget.new.lent - vec_len c.forget.new.lent = omega (arith, c.forget.ensures.capacity, c.forget.ensures.len) in
    let placed = placed_back c.self.inside.grants c.args.ticket own.0 _ _ _ _ _ _ _ _ was.0 own.1 own.2 takes in
    rw (c.release.ensures, c.replace.ensures.after) (
      kept_released c.self.inside.grants c.args.ticket own.0 _ _ _ _ _ _ _ _ _ _ _ _ _ _ _ was.0 own.1 own.2 c.put.ensures.room lent c.bring_all.ensures.places c.bring_all.ensures.info_places c.bring_all.ensures.few c.bring_all.ensures.room placed,
      c.bring_all.ensures.empty,
      c.bring_all.ensures.test was.2 c.requires.kept,
      c.renew_table.ensures.test c.requires.table_kept,
      c.bring_all.ensures.few_cells,
    )

pub returns-clause-infos : goal.returns-clause-infos
returns-clause-infos g c = rw (← c.self.view_is) c.bring_all.ensures.infos
