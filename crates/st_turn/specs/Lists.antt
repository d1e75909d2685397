-- Words over lists: how often a number stands in one, the events of one number, and what is claimed of a log.
use Rattle.std.specs.Prelude.{ℕ, ◌≡◌, ◌+◌, ◌<◌, ◌==◌, Bool, true, false, List, [], ◌∷◌, length, ◌++◌, nat_lt, if◌then◌else◌}
use Rattle.std.specs.List.{filter}
use mathlib.Core.Option.{some}
use lib.ListN.{get_elem?}
use Rattle.st_turn.specs.declared.knowledge.Claim.{Claim}

abbrev pub one_if : Bool → ℕ
one_if true = 1
one_if false = 0

-- how often a number stands in a list: by sums of these it is said that no two seats have one number
abbrev pub times : ℕ → List ℕ → ℕ
times x [] = 0
times x (y ∷ ys) = one_if (x == y) + times x ys

abbrev pub IsAmong : ℕ → List ℕ → Type 0
IsAmong x ns = 0 < times x ns

abbrev pub total : {A : Type 0} → (A → ℕ) → List A → ℕ
total f [] = 0
total f (x ∷ xs) = f x + total f xs

-- said of each member of a list, found by its place
abbrev pub Each : {A : Type 0} → (A → Type 0) → List A → Type 0
Each {A} P l = (i : ℕ) (a : A) → get_elem? l i ≡ some a → P a

-- the longer of two lists; of two beginnings of one log, the one that has both
abbrev pub longer : {A : Type 0} → List A → List A → List A
longer a b = if nat_lt (length a) (length b) then b else a

-- the events that one number told, in their order
abbrev pub told_by : {E : Type 0} → (E → ℕ) → ℕ → List E → List E
told_by by n es = filter (λ e. by e == n) es

-- all are of one number: what a seat may append
abbrev pub AreBy : {E : Type 0} → (E → ℕ) → ℕ → List E → Type 0
AreBy by n [] = Unit {0}
AreBy by n (e ∷ es) = (by e ≡ n) × AreBy by n es

-- each is of one of these numbers: at the end no event is of a seat that was lost
abbrev pub AreAmong : {E : Type 0} → (E → ℕ) → List ℕ → List E → Type 0
AreAmong by ns [] = Unit {0}
AreAmong by ns (e ∷ es) = IsAmong (by e) ns × AreAmong by ns es

abbrev pub number_of : {E : Type 0} → Claim E → ℕ
number_of c = c.number

-- a log has of each claimed number just the events that are claimed: so a seat's own events tell what the log has of it
abbrev pub Account : {E : Type 0} → (E → ℕ) → List E → List (Claim E) → Type 0
Account by log [] = Unit {0}
Account by log (c ∷ cs) = (told_by by c.number log ≡ c.events) × Account by log cs

-- a log has no event of these numbers: so a seat that is split off may begin with none
abbrev pub Unheard : {E : Type 0} → (E → ℕ) → List E → List ℕ → Type 0
Unheard by log [] = Unit {0}
Unheard by log (n ∷ ns) = (told_by by n log ≡ []) × Unheard by log ns

-- the first claim has these events more
abbrev pub grown : {E : Type 0} → List E → List (Claim E) → List (Claim E)
grown es [] = []
grown es (c ∷ cs) = (record { number = c.number; events = c.events ++ es }) ∷ cs
