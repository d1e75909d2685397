-- The rule of the turn: what is true of the words, the slot and all views at every moment.
use Rattle.std.specs.Prelude.{ℕ, ◌≡◌, ◌<◌, ◌≤◌, ◌^◌, true, false, List, [], ◌∷◌, map, length, Option, Some, None}
use mathlib.Core.Option.{some}
use lib.ListN.{get_elem?}
use Rattle.atomic_table.specs.Table.{State}
use Rattle.st_turn.specs.declared.knowledge.Place.{Place}
use Rattle.st_turn.specs.declared.knowledge.Place.TheVariants.{Out, Spent}
use Rattle.st_turn.specs.declared.knowledge.Knowledge.{Knowledge}
use Rattle.st_turn.specs.Lists.{Each, told_by}
use Rattle.st_turn.specs.Parts.{IsIn, place_of, holding_of, Tickets, Counts, Family, IsDealt, Alone, Knows}

-- the list of the book in the slot; before the first book it is empty
abbrev pub log_of : {B E : Type 0} → (B → List E) → Option B → List E
log_of events (Some b) = events b
log_of events None = []

-- the book in the slot fits the opening; before the first book there is neither
abbrev pub FitsIn : {B O : Type 0} → (B → O → Type 0) → Option O → Option B → Type 0
FitsIn fits (Some o) (Some b) = fits b o
FitsIn fits (Some o) None = ⊥
FitsIn fits None (Some b) = ⊥
FitsIn fits None None = Unit {0}

-- The log is the list of the book at home; while the book is out with the seat in its turn, the log is what that seat has seen, since it saw the whole list when it took the book.
-- So all that is said of the log stands in a turn too, and no view is excepted.
pub data Where {B E O : Type 0} (events : B → List E) (fits : B → O → Type 0) (s : State (Option B) (Knowledge E O)) (log : List E) (opening : Option O) : Type 0 where
  AtHome : (x : Option B) → get_elem? s.homes 0 ≡ some (some x) → log ≡ log_of events x → FitsIn fits opening x → ((i : ℕ) (p : Place) → get_elem? (map place_of s.views) i ≡ some p → IsIn p → ⊥) → Where events fits s log opening
  WithSeat : (i : ℕ) (v : Knowledge E O) → get_elem? s.views i ≡ some v → IsIn v.place → v.seen ≡ log → ((j : ℕ) (p : Place) → get_elem? (map place_of s.views) j ≡ some p → IsIn p → j ≡ i) → Where events fits s log opening

pub record IsKept {B E O : Type 0} (by : E → ℕ) (events : B → List E) (fits : B → O → Type 0) (s : State (Option B) (Knowledge E O)) : Type 0 where
  -- the next ticket, the ticket that is served, and how many numbers were dealt
  pub ticket : ℕ
  pub serving : ℕ
  pub dealt : ℕ
  pub words : s.words ≡ ticket ∷ serving ∷ dealt ∷ []
  -- the last ticket is never drawn, so the word doesn't wrap
  pub few : ticket < 2 ^ 64
  pub one : length s.homes ≡ 1
  pub log : List E
  pub opening : Option O
  pub tickets : Tickets ticket serving (map place_of s.views)
  pub book : Where events fits s log opening
  pub knows : Each (Knows by log opening) s.views
  -- a number that wasn't dealt has no event: so a seat with a fresh number begins with none
  pub unheard : (x : ℕ) → dealt ≤ x → told_by by x log ≡ []
  pub counts : Counts dealt (map holding_of s.views)
  pub alone : Alone s.views
  pub family : Family dealt (map holding_of s.views)
  pub known : Each (IsDealt dealt) (map holding_of s.views)

-- the seat of a table just made: the number 0 is dealt to it, and it is alone
abbrev pub blank_view : {E O : Type 0} → Knowledge E O
blank_view = record { place = Out; holding = record { claims = (record { number = 0; events = [] }) ∷ []; drawn = []; made = []; counted = 1; alone = true }; seen = []; also = []; opening = None }

-- a seat that was joined into another; it holds nothing, so whatever is said of views is true of it
abbrev pub spent_view : {E O : Type 0} → Knowledge E O
spent_view = record { place = Spent; holding = record { claims = []; drawn = []; made = []; counted = 0; alone = false }; seen = []; also = []; opening = None }
