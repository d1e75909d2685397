-- What a thread that only writes leaves of its seat.
use Rattle.std.specs.Prelude.{◌≡◌}
use Rattle.st_turn.specs.Views.{SeatView}

-- the seat is of the same turn, and answers for the same seats: no other was split off it, or joined into it
pub record WritesOnly {E O : Type 0} (old new : SeatView E O) : Type 0 where
  pub turn : new.turn ≡ old.turn
  pub number : new.number ≡ old.number
  pub taken_over : new.taken_over ≡ old.taken_over
  pub made : new.made ≡ old.made
