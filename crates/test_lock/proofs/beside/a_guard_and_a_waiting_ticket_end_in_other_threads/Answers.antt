use Rattle.std.proofs.Common.{length, ap, ◌∙◌}
use Rattle.test_lock.specs.Ending.{IsEnded}
use Rattle.test_lock.proofs.Sides.{all_back}
use Rattle.test_lock.proofs.beside.a_guard_and_a_waiting_ticket_end_in_other_threads.Goals as goal

pub join_sides-requires-clause-ended : goal.join_sides-requires-clause-ended
join_sides-requires-clause-ended g c κs =
    all_back (λ side. IsEnded c.new_lock-lock.result.0 side.seat side.work) c.put-2.new.sides.len c.end_apart.new.sides c.put-2.new.sides.items (c.end_apart.auto.sides ∙ ap length c.deref_mut.ensures.value) c.end_apart.ensures.ended
