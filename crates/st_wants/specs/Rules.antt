-- the rule of the lock, over a list of its moves
use Rattle.std.specs.Prelude.{ℕ, ◌≡◌, ◌≢◌, true, false, List, [], ◌∷◌, Some, IsSomeAnd}
use Rattle.st_wants.specs.declared.want.Want.{Want}
use Rattle.st_wants.specs.declared.row.LockRow.{LockRow}
use Rattle.st_wants.specs.Wants.{compatible}
use Rattle.st_wants.specs.Lock.{Lock, row_at, arrived, granted, released, IsFree}

-- what one event of a log does to the lock: an arrival, a grant or a release of a ticket by a seat
pub data Move : Type 0 where
  Arrive : (seat ticket : ℕ) (want : Want) → Move
  Grant : (seat ticket : ℕ) → Move
  Release : (seat ticket : ℕ) → Move

abbrev pub lock_after : Lock → Move → Lock
lock_after l (Arrive s t w) = arrived s w l
lock_after l (Grant s t) = granted t l
lock_after l (Release s t) = released t l

-- the lock after a list of moves
abbrev pub lock_run : Lock → List Move → Lock
lock_run l [] = l
lock_run l (m ∷ ms) = lock_run (lock_after l m) ms

-- what the rule asks of a move: tickets number the arrivals; a grant is of a ticket that waits and that nothing keeps back; a release is of a live one; each by the seat that arrived
abbrev pub May : Lock → Move → Type 0
May l (Arrive s t w) = t ≡ l.next
May l (Grant s t) = IsSomeAnd (row_at t l.rows) (λ r. (r.live ≡ false) × (r.seat ≡ s)) × IsFree l t
May l (Release s t) = IsSomeAnd (row_at t l.rows) (λ r. (r.live ≡ true) × (r.seat ≡ s))

-- the rule holds of each move
abbrev pub Obeys : Lock → List Move → Type 0
Obeys l [] = Unit {0}
Obeys l (m ∷ ms) = May l m × Obeys (lock_after l m) ms

-- any two live grants are compatible
abbrev pub LiveApart : Lock → Type 0
LiveApart l = (t u : ℕ) (r q : LockRow) → row_at t l.rows ≡ Some r → row_at u l.rows ≡ Some q → r.live ≡ true → q.live ≡ true → t ≢ u → compatible r.want q.want ≡ true
