-- What each kind of step makes of a seat's view, and what it tells.
use Rattle.std.specs.Prelude.{ℕ, ◌≡◌, ◌+◌, ◌<◌, ◌≤◌, ◌⊎◌, ◌==◌, Bool, true, false, List, [], ◌∷◌, ◌++◌, drop, length, max, MatchBool, Option, Some, None}
use mathlib.Core.List.{IsPrefix}
use Rattle.atomic_table.specs.Table.{Me, Step}
use Rattle.st_turn.specs.declared.knowledge.Place.TheVariants.{Out, Waiting, InTurn, Last}
use Rattle.st_turn.specs.declared.knowledge.Claim.{Claim}
use Rattle.st_turn.specs.declared.knowledge.Knowledge.{Knowledge}
use Rattle.st_turn.specs.Lists.{IsAmong, AreBy, told_by, Account, grown, longer}
use Rattle.st_turn.specs.Parts.{claimed, held}
use Rattle.st_turn.specs.Views.{HasAll}
use Rattle.st_turn.specs.Ruling.{log_of, FitsIn, spent_view}

-- it is the number of the first claim
abbrev pub IsOwn : {E : Type 0} → ℕ → List (Claim E) → Type 0
IsOwn n [] = ⊥
IsOwn n (c ∷ cs) = c.number ≡ n

-- 1, compare and exchange of the next ticket: the ticket is the seat's, where it is the number that was expected; else nothing changes
abbrev pub Drew : {S E O : Type 0} → Step S → Me S (Knowledge E O) → ℕ → Me S (Knowledge E O) → Type 0
Drew s m n w = MatchBool (n == s.first) (w ≡ (record m.0 { place = Waiting n }, m.1)) (w ≡ m)

-- a book that was taken begins with what the seat has seen, has of each number just what is claimed, and fits the opening
pub record Found {B E O : Type 0} (by : E → ℕ) (events : B → List E) (fits : B → O → Type 0) (v : Knowledge E O) (x : Option B) : Type 0 where
  pub seen : IsPrefix v.seen (log_of events x)
  pub claims : Account by (log_of events x) v.holding.claims
  pub fitting : FitsIn fits v.opening x

-- 2, load of the ticket that is served: where it is the seat's, the seat is in its turn, has the slot, and has seen the whole log
abbrev pub Enters : {B E O : Type 0} → (E → ℕ) → (B → List E) → (B → O → Type 0) → Step (Option B) → Me (Option B) (Knowledge E O) → ℕ → Me (Option B) (Knowledge E O) → Type 0
Enters {B} {E} {O} by events fits s m n w = (m.0.place ≡ Waiting n → (x : Option B) × (w ≡ (record m.0 { place = InTurn n; seen = log_of events x }, (0, x) ∷ m.1)) × Found by events fits m.0 x)
    × (¬ (m.0.place ≡ Waiting n) → w ≡ m)

-- 3 and 4, the book out of the slot and into it, change no view: the slot is the seat's while it is in its turn

-- the opening is that of the first book
abbrev pub or_opens : {B O : Type 0} → (B → O) → Option O → B → Option O
or_opens opens (Some o) b = Some o
or_opens opens None b = Some (opens b)

-- the seat is out, has seen the whole log, and has of its own number what the log has more
abbrev pub after_turn : {B E O : Type 0} → (B → List E) → (B → O) → Knowledge E O → B → Knowledge E O
after_turn events opens v b = record v { place = Out; holding = record v.holding { claims = grown (drop (length v.seen) (events b)) v.holding.claims }; seen = events b; opening = or_opens opens v.opening b }

-- 5, add of one to the ticket that is served, or at a seat without a ticket a load: the seat gives the slot back, with the book in it
abbrev pub Leaves : {B E O : Type 0} → (B → List E) → (B → O) → Step (Option B) → Me (Option B) (Knowledge E O) → ℕ → Me (Option B) (Knowledge E O) → Type 0
Leaves {B} {E} {O} events opens s m n w = (b : B) → m.1 ≡ (0, Some b) ∷ [] → w ≡ (after_turn events opens m.0 b, [])

-- what the rule asks of a book that is given back
pub record MayLeave {B E O : Type 0} (by : E → ℕ) (events : B → List E) (opens : B → O) (fits : B → O → Type 0) (v : Knowledge E O) (b : B) : Type 0 where
  pub more : List E
  pub number : ℕ
  pub goes : events b ≡ v.seen ++ more
  pub own : IsOwn number v.holding.claims
  pub are : AreBy by number more
  pub fit : FitsIn fits (or_opens opens v.opening b) (Some b)

abbrev pub first_of : List ℕ → List ℕ
first_of [] = []
first_of (n ∷ ns) = n ∷ []

abbrev pub rest_of : List ℕ → List ℕ
rest_of [] = []
rest_of (n ∷ ns) = ns

-- the new seat has the number that was drawn for it, and has seen the same
abbrev pub newcomer : {E O : Type 0} → Knowledge E O → List ℕ → Knowledge E O
newcomer v [] = spent_view
newcomer v (n ∷ ns) = record { place = Out; holding = record { claims = (record { number = n; events = [] }) ∷ []; drawn = []; made = []; counted = v.holding.counted; alone = false }; seen = v.seen; also = []; opening = v.opening }

-- 6, split: the number that was drawn goes to the new seat, and the one keeps it among those that it made; it is alone no more
abbrev pub left_of : {E O : Type 0} → Knowledge E O → Knowledge E O
left_of v = record v { holding = record v.holding { drawn = rest_of v.holding.drawn; made = v.holding.made ++ first_of v.holding.drawn; alone = false } }

abbrev pub right_of : {E O : Type 0} → Knowledge E O → Knowledge E O
right_of v = newcomer v v.holding.drawn

-- 7, join: the one answers for all that the other answered for; what the other had seen is kept beside, until the load that follows
abbrev pub both_of : {E O : Type 0} → Knowledge E O → Knowledge E O → Knowledge E O
both_of v w = record v { holding = record { claims = v.holding.claims ++ w.holding.claims; drawn = v.holding.drawn ++ w.holding.drawn; made = v.holding.made ++ w.holding.made; counted = max v.holding.counted w.holding.counted; alone = false }; also = w.seen }

-- 7, the load: both have seen beginnings of one log, so the longer has the other, and is kept; the numbers that the seat holds are no more than were dealt
abbrev pub Tells : {S E O : Type 0} → Step S → Me S (Knowledge E O) → ℕ → Me S (Knowledge E O) → Type 0
Tells s m n w = (w ≡ (record m.0 { seen = longer m.0.seen m.0.also; also = [] }, m.1)) × IsPrefix m.0.seen (longer m.0.seen m.0.also) × IsPrefix m.0.also (longer m.0.seen m.0.also) × (length (held m.0.holding) ≤ n)

abbrev pub with_counted : {E O : Type 0} → ℕ → Knowledge E O → Knowledge E O
with_counted n v = record v { holding = record v.holding { counted = n } }

abbrev pub with_drawn : {E O : Type 0} → ℕ → Knowledge E O → Knowledge E O
with_drawn n v = record v { holding = record v.holding { drawn = n ∷ v.holding.drawn; counted = n + 1 } }

-- 8, compare and exchange of the count of numbers: the seat has the number for the next seat, where it is the one that was expected; it is none that the seat knew
abbrev pub Numbered : {S E O : Type 0} → Step S → Me S (Knowledge E O) → ℕ → Me S (Knowledge E O) → Type 0
Numbered s m n w = (m.0.holding.counted ≤ n) × MatchBool (n == s.first) (w ≡ (with_drawn n m.0, m.1)) (w ≡ (with_counted n m.0, m.1))

abbrev pub alone_of : {E O : Type 0} → ℕ → Knowledge E O → Knowledge E O
alone_of n v = record v { holding = record v.holding { counted = n; alone = true } }

-- 9, load of the count of numbers: so many were dealt. A seat that holds as many is alone, and it does exactly where it has all.
pub record Counted {S E O : Type 0} (s : Step S) (m : Me S (Knowledge E O)) (n : ℕ) (w : Me S (Knowledge E O)) : Type 0 where
  pub enough : length (held m.0.holding) ≤ n
  pub later : m.0.holding.counted ≤ n
  pub alone : length (held m.0.holding) ≡ n → w ≡ (alone_of n m.0, m.1)
  pub others : length (held m.0.holding) < n → w ≡ (with_counted n m.0, m.1)
  pub joined : m.0.holding.drawn ≡ [] → HasAll (claimed m.0.holding) m.0.holding.made → length (held m.0.holding) ≡ n
  pub whole : m.0.holding.drawn ≡ [] → length (held m.0.holding) ≡ n → HasAll (claimed m.0.holding) m.0.holding.made

-- a load by a seat alone: the book is at home, and the seat has the slot; each event is of a number that it answers for
abbrev pub TakesLast : {B E O : Type 0} → (E → ℕ) → (B → List E) → (B → O → Type 0) → Step (Option B) → Me (Option B) (Knowledge E O) → ℕ → Me (Option B) (Knowledge E O) → Type 0
TakesLast {B} {E} {O} by events fits s m n w = (x : Option B) × (w ≡ (record m.0 { place = Last; seen = log_of events x }, (0, x) ∷ m.1)) × Found by events fits m.0 x
    × ((y : ℕ) → IsAmong y (held m.0.holding) ⊎ (told_by by y (log_of events x) ≡ []))

-- the seat stands as before, but for what it drew and counted, and for whether it knows that it is alone
pub record SameBut {S E O : Type 0} (m w : Me S (Knowledge E O)) (drawn : List ℕ) (counted : ℕ) : Type 0 where
  pub alone : Bool
  pub view : w ≡ (record m.0 { holding = record m.0.holding { drawn = drawn; counted = counted; alone = alone } }, m.1)
