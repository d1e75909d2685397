-- what a seat has of a grant, and what it gives back
use Rattle.std.specs.Prelude.{ℕ, ◌≡◌, ◌+◌, ◌<◌, ◌^◌, List, length, Option, option_map}
use Rattle.std.specs.List.{sum_by}
use Rattle.st_book.specs.View.{or_zero}
use Rattle.st_book.specs.Noted.{grant_with, IsNoted}
use Rattle.st_lock.specs.Seats.{LockSeat}

-- While the log is short, the faults of the ticket's part have risen by so many since its grant.
pub record Rose (v : LockSeat) (ticket faults more : ℕ) : Type 0 where
  pub number : ℕ
  pub noted : IsNoted (grant_with v.number ticket number) v.own
  pub rose : length v.seen < 2 ^ 62 → faults ≡ number + more

-- the sum of the numbers of faults of a part
abbrev pub faults_in : {T C : Type 0} → (T → ℕ) → (C → ℕ) → Option T → List C → ℕ
faults_in board cell table cells = or_zero (option_map board table) + sum_by cell cells
