use Rattle.std.proofs.Common.{◌≡◌, ◌≤◌, ◌-◌, []}
use Rattle.st_turn.specs.Kinds.{SameBut}
use Rattle.st_turn.proofs.parting.draw_next.Given as goal

abbrev pub invariant-loop-next : goal.invariant-loop-next
invariant-loop-next g l =
    (l.next ≤ 18446744073709551615) × (l.seat.table_id ≡ l.fn.seat.table_id) × (l.fn.seat.me.0.holding.counted ≤ l.next) × SameBut l.fn.seat.me l.seat.me [] l.next

abbrev pub decreases-loop-next : goal.decreases-loop-next
decreases-loop-next g l = 18446744073709551616 - l.next
