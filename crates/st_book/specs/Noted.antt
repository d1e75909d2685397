-- the numbers of faults with which parts went out, beside the events of the log
use Rattle.std.specs.Prelude.{ℕ, ◌≡◌, ◌+◌, ◌⊎◌, List, [], ◌∷◌, ◌++◌}
use Rattle.st_wants.specs.Lock.{Lock, IsLive}
use Rattle.st_history.specs.declared.log.Event.{Event}
use Rattle.st_history.specs.declared.log.Event.TheVariants.{Arrive, Grant, Release}
use Rattle.st_book.specs.declared.lent.Lent.{Lent}
use Rattle.st_book.specs.declared.noted.Notes.{Notes, Start, Then'}
use Rattle.st_book.specs.declared.noted.Noted.{Noted}
use Rattle.st_book.specs.View.{lent_at}

-- the numbers, in the order of the grants
abbrev pub numbers : Notes → List ℕ
numbers Start = []
numbers (Then' n m before) = numbers before ++ n ∷ []

-- the number of an event, where these are the numbers of the grants from it on
abbrev pub number_in : Event → List ℕ → ℕ
number_in (Arrive seat ticket want) ns = 0
number_in (Grant seat ticket) [] = 0
number_in (Grant seat ticket) (n ∷ ns) = n
number_in (Release seat ticket entries) ns = 0

-- the numbers of the grants after it
abbrev pub numbers_past : Event → List ℕ → List ℕ
numbers_past (Arrive seat ticket want) ns = ns
numbers_past (Grant seat ticket) [] = []
numbers_past (Grant seat ticket) (n ∷ ns) = ns
numbers_past (Release seat ticket entries) ns = ns

-- the log, each grant with its number
abbrev pub noted_log : List Event → List ℕ → List Noted
noted_log [] ns = []
noted_log (e ∷ es) ns = (record { event = e; faults = number_in e ns }) ∷ noted_log es (numbers_past e ns)

abbrev pub grants_in : Event → ℕ
grants_in (Arrive seat ticket want) = 0
grants_in (Grant seat ticket) = 1
grants_in (Release seat ticket entries) = 0

abbrev pub grant_count : List Event → ℕ
grant_count [] = 0
grant_count (e ∷ es) = grants_in e + grant_count es

-- the ticket's grant, by this seat, with this number
abbrev pub grant_with : ℕ → ℕ → ℕ → Noted
grant_with seat ticket n = record { event = Grant seat ticket; faults = n }

abbrev pub IsNoted : Noted → List Noted → Type 0
IsNoted x [] = ⊥
IsNoted x (y ∷ ys) = (y ≡ x) ⊎ IsNoted x ys

-- a live ticket's part counts with the number that is noted at its grant
abbrev pub LentAsNoted : Lock → List Noted → List Lent → Type 0
LentAsNoted l log lent = (seat t n : ℕ) → IsNoted (grant_with seat t n) log → IsLive l t → lent_at t lent ≡ n
