use Rattle.std.proofs.Common.{◌≡◌, ◌+◌, ◌-◌, ◌≤◌, true, false, length, vec_len, vec_capacity, arith}
use Rattle.st_wants.specs.declared.row.LockRow.{LockRow}
use Rattle.st_wants.specs.Lock.{row_at}
use Rattle.st_grants.proofs.Sound.{some_and}
use Rattle.st_wants.specs.Wants.{takes_table}
use Rattle.st_book.proofs.Roomed.{kept_released, placed_released}
use Rattle.st_book.proofs.book.Book.release_one.Goals as goal

pub invariant_of-self : goal.invariant_of-self
invariant_of-self g c =
    let was = c.self.invariant in
    let own = some_and (λ (r : LockRow). r.live ≡ true) (row_at c.args.ticket c.self.inside.grants.rows) (rw (← c.self.view_is) at c.requires.live) in
    let leaves : takes_table own.0.want ≡ false = rw own.1 at (rw (← c.self.view_is) at c.requires.no_table) in
    let lent : vec_capacity c.self.inside.lent - vec_len c.self.inside.lent ≤ vec_capacity c.forget.new.lent - vec_len c.forget.new.lent = omega (arith, c.forget.ensures.capacity, c.forget.ensures.len) in
    let infos : 16 ≤ length c.bring_some.new.infos.items + c.bring_some.new.infos.room = omega (arith, was.0.infos, c.bring_some.ensures.len, c.bring_some.ensures.room) in
    let few : length c.bring_some.new.infos.items ≤ 16 = omega (arith, was.0.few, c.bring_some.ensures.len) in
    let placed = placed_released c.self.inside.grants c.args.ticket own.0 _ _ _ _ _ _ _ _ was.0 own.1 leaves in (
      rw c.release.ensures (kept_released c.self.inside.grants c.args.ticket own.0 _ _ _ _ _ _ _ _ _ _ _ _ _ _ _ was.0 own.1 own.2 c.put.ensures.room lent c.bring_some.ensures.places infos few was.0.fresh placed),
      was.1,
      c.bring_some.ensures.test was.2 c.requires.kept,
      was.3,
      c.bring_some.ensures.few,
    )

pub returns-clause-infos : goal.returns-clause-infos
returns-clause-infos g c = rw (← c.self.view_is) c.bring_some.ensures.infos
