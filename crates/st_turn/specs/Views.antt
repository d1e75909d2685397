-- What contracts see of a seat, and what each call makes of it.
use Rattle.std.specs.Prelude.{ℕ, ◌≡◌, ◌+◌, Bool, true, false, List, [], ◌∷◌, ◌++◌, map, drop, length, max, Option, Some}
use mathlib.Core.List.{IsPrefix}
use Rattle.atomic_table.specs.Seated.{TableId}
use Rattle.st_turn.specs.declared.knowledge.Claim.{Claim}
use Rattle.st_turn.specs.Lists.{IsAmong, told_by, AreBy, Account, number_of, longer}

-- a seat
pub record SeatView (E O : Type 0) : Type 0 where
  -- the turn that it is of
  pub turn : TableId
  -- its number: 0, or the one that its split drew
  pub number : ℕ
  -- the book is out with it
  pub is_in : Bool
  -- the log of the book that it had last, or what a seat that was joined into it had seen, if that is longer
  pub seen : List E
  -- the events of its number
  pub own : List E
  -- the numbers of the seats that were joined into it, directly or through others, each with its events
  pub taken_over : List (Claim E)
  -- the numbers of the seats that were split off it, or off one that it took over
  pub made : List ℕ
  -- how many numbers were dealt to seats in all, as far as it knows
  pub counted : ℕ
  -- the opening that the first book gave
  pub opening : Option O

-- the numbers that it answers for: it alone can append events of them
abbrev pub numbers_of : {E O : Type 0} → SeatView E O → List ℕ
numbers_of v = v.number ∷ map number_of v.taken_over

-- the book fits the opening
abbrev pub Fits : {B O : Type 0} → (B → O → Type 0) → Option O → B → Type 0
Fits {B} {O} fits opening b = (o : O) → opening ≡ Some o → fits b o

-- a book that the seat is lent begins with all that the seat has seen, and has of each number that the seat answers for just the events that are noted:
-- so nothing that it knows is ever undone, and nobody else writes in its name
pub record IsLent {B E O : Type 0} (by : E → ℕ) (events : B → List E) (fits : B → O → Type 0) (v : SeatView E O) (b : B) : Type 0 where
  pub seen : IsPrefix v.seen (events b)
  pub own : told_by by v.number (events b) ≡ v.own
  pub taken_over : Account by (events b) v.taken_over
  pub fitting : Fits fits v.opening b

-- a book that the seat may give back goes on from what it was lent by events of its own: with this each promise to the other seats stands
pub record GoesOn {B E O : Type 0} (by : E → ℕ) (events : B → List E) (fits : B → O → Type 0) (v : SeatView E O) (b : B) (more : List E) : Type 0 where
  pub goes : events b ≡ v.seen ++ more
  pub own : AreBy by v.number more
  pub fitting : Fits fits v.opening b

-- every seat of the turn was joined into this one: it answers for 0, the first number, and for each number that was split off one that it answers for
pub record HasAll (numbers made : List ℕ) : Type 0 where
  pub first : IsAmong 0 numbers
  pub others : (x : ℕ) → IsAmong x made → IsAmong x numbers

-- the first seat
abbrev pub first_seat : {E O : Type 0} → TableId → O → SeatView E O
first_seat id o = record { turn = id; number = 0; is_in = false; seen = []; own = []; taken_over = []; made = []; counted = 1; opening = Some o }

-- the seat with the book
abbrev pub with_book : {E O : Type 0} → SeatView E O → List E → SeatView E O
with_book v log = record v { is_in = true; seen = log }

-- the seat after it gave the book back with this log: what the log has more is the seat's own
abbrev pub after_put : {E O : Type 0} → SeatView E O → List E → SeatView E O
after_put v log = record v { is_in = false; seen = log; own = v.own ++ drop (length v.seen) log }

-- the seat after the number n was split off it
abbrev pub after_split : {E O : Type 0} → SeatView E O → ℕ → SeatView E O
after_split v n = record v { made = v.made ++ n ∷ []; counted = n + 1 }

-- the seat that was split off: it has seen the same, and has no event
abbrev pub new_seat : {E O : Type 0} → SeatView E O → ℕ → SeatView E O
new_seat v n = record v { number = n; own = []; taken_over = []; made = []; counted = n + 1 }

abbrev pub claim_of : {E O : Type 0} → SeatView E O → Claim E
claim_of v = record { number = v.number; events = v.own }

-- the seat after it took the other in
abbrev pub after_join : {E O : Type 0} → SeatView E O → SeatView E O → SeatView E O
after_join v w = record v { seen = longer v.seen w.seen; taken_over = v.taken_over ++ claim_of w ∷ w.taken_over; made = v.made ++ w.made; counted = max v.counted w.counted }

-- the seat once it counted: n numbers were dealt that it doesn't answer for
abbrev pub with_others : {E O : Type 0} → SeatView E O → ℕ → SeatView E O
with_others v n = record v { counted = n + length (numbers_of v) }
