-- the lock: the tickets that arrived and aren't released, and which of them may be granted
use Rattle.std.specs.Prelude.{ℕ, ◌≡◌, ◌+◌, ◌≤◌, ◌==◌, nat_lt, Bool, true, false, not, ◌&&◌, ◌||◌, List, [], ◌∷◌, ◌++◌, map, filter, find, Option, Some, IsSomeAnd}
use Rattle.st_wants.specs.declared.want.Want.{Want}
use Rattle.st_wants.specs.declared.row.LockRow.{LockRow}
use Rattle.st_wants.specs.Wants.{conflict}

-- the number of arrivals, which is the next ticket, and the tickets that aren't released, in order of arrival
pub record Lock : Type 0 where
  pub next : ℕ
  pub rows : List LockRow

abbrev pub has_ticket : ℕ → LockRow → Bool
has_ticket t r = r.ticket == t

-- a ticket's row, from its arrival to its release
abbrev pub row_at : ℕ → List LockRow → Option LockRow
row_at t rows = find (has_ticket t) rows

abbrev pub start : Lock
start = record { next = 0; rows = [] }

abbrev pub new_row : ℕ → ℕ → Want → LockRow
new_row t s w = record { ticket = t; seat = s; want = w; live = false }

abbrev pub arrived : ℕ → Want → Lock → Lock
arrived s w l = record { next = l.next + 1; rows = l.rows ++ new_row l.next s w ∷ [] }

abbrev pub marked : ℕ → LockRow → LockRow
marked t r = record r { live = r.live || has_ticket t r }

abbrev pub granted : ℕ → Lock → Lock
granted t l = record { next = l.next; rows = map (marked t) l.rows }

abbrev pub released : ℕ → Lock → Lock
released t l = record { next = l.next; rows = filter (λ r. not (has_ticket t r)) l.rows }

-- the ticket arrived and isn't granted
abbrev pub IsWaiting : Lock → ℕ → Type 0
IsWaiting l t = IsSomeAnd (row_at t l.rows) (λ r. r.live ≡ false)

-- the ticket is granted and isn't released
abbrev pub IsLive : Lock → ℕ → Type 0
IsLive l t = IsSomeAnd (row_at t l.rows) (λ r. r.live ≡ true)

-- q keeps r from being granted: their wants conflict, and q is live or came earlier
abbrev pub keeps_back : LockRow → LockRow → Bool
keeps_back q r = conflict q.want r.want && (q.live || nat_lt q.ticket r.ticket)

-- ticket u keeps ticket t from being granted
pub record Blocks (l : Lock) (u t : ℕ) : Type 0 where
  pub blocker : LockRow
  pub own : LockRow
  pub blocker_at : row_at u l.rows ≡ Some blocker
  pub own_at : row_at t l.rows ≡ Some own
  pub back : keeps_back blocker own ≡ true

-- no ticket keeps t from being granted
abbrev pub IsFree : Lock → ℕ → Type 0
IsFree l t = (u : ℕ) → Blocks l u t → ⊥

-- b is the least ticket that keeps t from being granted
pub record IsLeastBlocker (l : Lock) (t b : ℕ) : Type 0 where
  pub blocks : Blocks l b t
  pub least : (u : ℕ) → Blocks l u t → b ≤ u
