-- What a seat's own fields say of its view, and the view that contracts see.
use Rattle.std.specs.Prelude.{ℕ, ◌≡◌, Bool, true, false, List, [], ◌∷◌, length, Option, Some, None}
use Rattle.atomic_table.specs.Table.{Me}
use Rattle.atomic_table.specs.Seated.{TableId}
use Rattle.st_turn.specs.declared.knowledge.Place.{Place}
use Rattle.st_turn.specs.declared.knowledge.Place.TheVariants.{Out, Waiting, InTurn, Last, Spent}
use Rattle.st_turn.specs.declared.knowledge.Claim.{Claim}
use Rattle.st_turn.specs.declared.knowledge.Knowledge.{Knowledge}
use Rattle.st_turn.specs.Views.{SeatView}
use Rattle.st_turn.specs.Ruling.{blank_view}
use Rattle.st_turn.specs.Kinds.{IsOwn}

abbrev pub is_in_turn : Place → Bool
is_in_turn Out = false
is_in_turn (Waiting t) = false
is_in_turn (InTurn t) = true
is_in_turn Last = true
is_in_turn Spent = false

-- the events of the first claim
abbrev pub own_events : {E : Type 0} → List (Claim E) → List E
own_events [] = []
own_events (c ∷ cs) = c.events

abbrev pub other_claims : {E : Type 0} → List (Claim E) → List (Claim E)
other_claims [] = []
other_claims (c ∷ cs) = cs

abbrev pub seat_view : {E O : Type 0} → TableId → ℕ → Knowledge E O → SeatView E O
seat_view id number v = record {
  turn = id;
  number = number;
  is_in = is_in_turn v.place;
  seen = v.seen;
  own = own_events v.holding.claims;
  taken_over = other_claims v.holding.claims;
  made = v.holding.made;
  counted = v.holding.counted;
  opening = v.opening;
}

-- Between calls a seat is out and holds nothing, or it is in its turn and holds the empty slot, since the caller has the book; without a ticket where it took the book as the last one.
abbrev pub Holds : {B : Type 0} → Bool → Place → List (ℕ × Option B) → Type 0
Holds last Out held = held ≡ []
Holds last (Waiting t) held = ⊥
Holds last (InTurn t) held = (last ≡ false) × (held ≡ (0, None) ∷ [])
Holds last Last held = (last ≡ true) × (held ≡ (0, None) ∷ [])
Holds last Spent held = ⊥

abbrev pub IsOpen : {O : Type 0} → Option O → Type 0
IsOpen (Some o) = Unit {0}
IsOpen None = ⊥

-- a view between calls, whose first claim is of the seat's number
pub record IsSeated {E O : Type 0} (v : Knowledge E O) (number claimed : ℕ) : Type 0 where
  pub own : IsOwn number v.holding.claims
  pub count : claimed ≡ length v.holding.claims
  pub drawn : v.holding.drawn ≡ []
  pub opened : IsOpen v.opening
  pub also : v.also ≡ []

pub record IsSeat {B E O : Type 0} (m : Me (Option B) (Knowledge E O)) (number claimed : ℕ) (last : Bool) : Type 0 where
  pub holds : Holds last m.0.place m.1
  pub seated : IsSeated m.0 number claimed

-- the first view once the first book is in
abbrev pub start_view : {E O : Type 0} → O → Knowledge E O
start_view o = record blank_view { opening = Some o }
