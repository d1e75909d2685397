use Rattle.std.proofs.Common.{◌≡◌, ◌+◌, ◌-◌, ◌*◌, ◌<◌, ◌≤◌, length, vec_len, vec_capacity, refl, sym, ap, ◌∙◌, subst, arith}
use Rattle.std.proofs.lemmas.List.Edits.{length-remove}
use Rattle.st_book.specs.Stands.{Stands}
use Rattle.st_book.proofs.Roomed.{kept_arrived, kept_more}
use Rattle.st_book.proofs.Standing.{stands_arrived}
use Rattle.st_book.proofs.book.Book.arrive.Goals as goal
use Rattle.st_book.proofs.book.Book.arrive.Goals.{in-Ok-arrive, in-Err-arrive}

pub invariant_of-self-in-Ok-arrive : goal.invariant_of-self-in-Ok-arrive
invariant_of-self-in-Ok-arrive g c =
    let was = c.self.invariant in
    let made = c.in_default-make_room.ensures in
    let enough : 2 * length c.self.inside.grants.rows + 2 ≤ c.put.new.self.room = omega (arith, made.log_room, c.outstanding-tickets.ensures, c.put.ensures.room) in
    let beside : length c.make_room.new.spares.items ≤ vec_capacity c.make_room.new.lent - vec_len c.make_room.new.lent = omega (arith, made.lent_room) in
    (rw c.in-Ok-arrive.ensures.ok (kept_arrived _ c.args.seat c.in-Ok.copy _ _ _ _ _ _ _ _ _ _ _ was.0 enough made.spares beside), was.1, was.2, was.3, was.4)

pub invariant_of-self-in-Err-arrive : goal.invariant_of-self-in-Err-arrive
invariant_of-self-in-Err-arrive g c =
    let was = c.self.invariant in
    let made = c.in_default-make_room.ensures in
    let inside : c.len.result - 1 < length c.make_room.new.spares.items = omega (arith, made.spares, c.len.ensures) in
    let left : length c.take_at.new.self.items + 1 ≡ length c.make_room.new.spares.items = ap (λ xs. length xs + 1) c.take_at.ensures.items ∙ length-remove c.make_room.new.spares.items (c.len.result - 1) inside in
    let enough : 2 * length c.self.inside.grants.rows ≤ c.make_room.new.log.room = omega (arith, made.log_room, c.outstanding-tickets.ensures) in
    let more : length c.self.inside.spares.items ≤ length c.take_at.new.self.items = omega (arith, made.spares, left) in
    let beside : length c.self.inside.spares.items ≤ vec_capacity c.make_room.new.lent - vec_len c.make_room.new.lent = omega (arith, made.lent_room, made.spares) in
    (rw c.in-Err-arrive.ensures.err (kept_more _ _ _ _ _ _ _ _ _ _ _ _ was.0 enough more beside), was.1, was.2, was.3, was.4)

pub returns-clause-stands : goal.returns-clause-stands
returns-clause-stands g c = λ s base h.
    let h' = rw (← c.self.view_is) at h in
    elim c.match-arrive.branch [
      | in-Ok-arrive w ↦ subst (Stands s base) (sym w.self-is) (stands_arrived s base _ _ c.args.seat c.args.want h' (rw c.in-Ok.ensures at w.in-Ok-arrive.ensures.ok) (rw (w.in-Ok-arrive.ensures.ticket, c.make_room.ensures.log) at w.put.ensures.items) refl refl refl refl refl c.make_room.ensures.lent refl)
      | in-Err-arrive w ↦ subst (Stands s base) (sym w.self-is) (rw (w.in-Err-arrive.ensures.err, c.make_room.ensures.log, c.make_room.ensures.lent) h')
    ]
