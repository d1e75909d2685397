-- The parts of the turn's rule, each over the one part of the views that it speaks of.
use Rattle.std.specs.Prelude.{ℕ, ◌≡◌, ◌≢◌, ◌<◌, ◌≤◌, true, List, [], ◌++◌, map, length, nat_lt, Option, None}
use mathlib.Core.Option.{some}
use mathlib.Core.List.{IsPrefix}
use lib.ListN.{get_elem?}
use Rattle.st_turn.specs.declared.knowledge.Place.{Place}
use Rattle.st_turn.specs.declared.knowledge.Place.TheVariants.{Out, Waiting, InTurn, Last, Spent}
use Rattle.st_turn.specs.declared.knowledge.Holding.{Holding}
use Rattle.st_turn.specs.declared.knowledge.Knowledge.{Knowledge}
use Rattle.st_turn.specs.Lists.{IsAmong, times, total, one_if, Account, Unheard, number_of}

-- the place has this ticket
abbrev pub Has : ℕ → Place → Type 0
Has t Out = ⊥
Has t (Waiting u) = u ≡ t
Has t (InTurn u) = u ≡ t
Has t Last = ⊥
Has t Spent = ⊥

-- the book is out with it
abbrev pub IsIn : Place → Type 0
IsIn Out = ⊥
IsIn (Waiting u) = ⊥
IsIn (InTurn u) = Unit {0}
IsIn Last = Unit {0}
IsIn Spent = ⊥

-- it wasn't joined into another
abbrev pub IsAlive : Place → Type 0
IsAlive Out = Unit {0}
IsAlive (Waiting u) = Unit {0}
IsAlive (InTurn u) = Unit {0}
IsAlive Last = Unit {0}
IsAlive Spent = ⊥

abbrev pub place_of : {E O : Type 0} → Knowledge E O → Place
place_of v = v.place

abbrev pub holding_of : {E O : Type 0} → Knowledge E O → Holding E
holding_of v = v.holding

-- the numbers that a seat answers for
abbrev pub claimed : {E : Type 0} → Holding E → List ℕ
claimed h = map number_of h.claims

-- and with them the one that it drew for the next seat
abbrev pub held : {E : Type 0} → Holding E → List ℕ
held h = claimed h ++ h.drawn

-- Tickets: each is above those that were served and below the next; no two are one; and only the one that is served is in its turn.
-- So the book is out with one seat at a time, in the order of arrival.
pub record Tickets (ticket serving : ℕ) (places : List Place) : Type 0 where
  pub order : serving ≤ ticket
  pub between : (i : ℕ) (p : Place) (t : ℕ) → get_elem? places i ≡ some p → Has t p → (serving ≤ t) × (t < ticket)
  pub apart : (i j : ℕ) (p q : Place) (t : ℕ) → get_elem? places i ≡ some p → get_elem? places j ≡ some q → Has t p → Has t q → i ≡ j
  pub turn : (i : ℕ) (p : Place) (t : ℕ) → get_elem? places i ≡ some p → IsIn p → Has t p → t ≡ serving

-- Numbers: each that was dealt is held by one seat, once, and no other number is held at all.
-- So a number's events are one seat's, and a seat that holds as many as were dealt holds them all.
pub record Counts {E : Type 0} (dealt : ℕ) (holdings : List (Holding E)) : Type 0 where
  pub once : (x : ℕ) → total (λ (h : Holding E). times x (held h)) holdings ≡ one_if (nat_lt x dealt)
  pub all : total (λ (h : Holding E). length (held h)) holdings ≡ dealt

-- A number came from a smaller one, its parent: who answers for the parent answers for it, or has it among those that it made or drew.
pub record Comes {E : Type 0} (holdings : List (Holding E)) (x : ℕ) : Type 0 where
  pub parent : ℕ
  pub below : parent < x
  pub place : ℕ
  pub holding : Holding E
  pub at : get_elem? holdings place ≡ some holding
  pub claimed : IsAmong parent (map number_of holding.claims)
  pub known : IsAmong x (map number_of holding.claims ++ (holding.made ++ holding.drawn))

-- Descent: each number but the first came from one before it.
-- So a seat that answers for 0, and for all that was made of what it answers for, answers for every seat: it can see by itself that all were joined.
abbrev pub Family : {E : Type 0} → ℕ → List (Holding E) → Type 0
Family dealt holdings = (x : ℕ) → 0 < x → x < dealt → Comes holdings x

-- Dealt: what a seat made, and what it counted, was dealt. So the number that it draws next is none that it knows.
pub record IsDealt {E : Type 0} (dealt : ℕ) (h : Holding E) : Type 0 where
  pub made : (x : ℕ) → IsAmong x h.made → x < dealt
  pub counted : h.counted ≤ dealt

-- Alone: where a seat knows that it is alone, every other is spent. So it may take the book without waiting, and end the turn.
abbrev pub Alone : {E O : Type 0} → List (Knowledge E O) → Type 0
Alone {E} {O} views = (i j : ℕ) (v w : Knowledge E O) → get_elem? views i ≡ some v → get_elem? views j ≡ some w → v.holding.alone ≡ true → j ≢ i → IsAlive w.place → ⊥

-- What is said of one view.
pub record Knows {E O : Type 0} (by : E → ℕ) (log : List E) (opening : Option O) (v : Knowledge E O) : Type 0 where
  -- the log begins with what it has seen, and with what a seat that it just took in had seen: nothing that a seat knows is undone
  pub seen : IsPrefix v.seen log
  pub also : IsPrefix v.also log
  -- the log has of each number that it answers for just the events that it noted
  pub claims : Account by log v.holding.claims
  -- a number that it drew has no event, so the seat to which it goes begins with none
  pub drawn : Unheard by log v.holding.drawn
  -- all seats have one opening
  pub opened : IsAlive v.place → v.opening ≡ opening
  -- until the first book is in, there is one seat alone: so the opening is set once
  pub begun : IsAlive v.place → opening ≡ None → v.holding.alone ≡ true
  -- a seat has a number, and a spent one has none
  pub named : IsAlive v.place → 0 < length v.holding.claims
  pub nothing : (IsAlive v.place → ⊥) → held v.holding ≡ []
  -- only a seat alone takes the book without a ticket: so no ticket is served beside it
  pub lastly : v.place ≡ Last → v.holding.alone ≡ true
