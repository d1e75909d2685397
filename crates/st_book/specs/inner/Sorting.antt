-- one cell of those at home, looked at
use Rattle.std.specs.Prelude.{ℕ, ◌≡◌, ◌+◌, Bool, true, false, List, [], ◌∷◌, ◌++◌, remove}

-- the cell x at place i goes over to the part, or is passed over; and which place is next
abbrev pub TakesOrPasses : {A : Type 0} → Bool → A → ℕ → List A → List A → List A → List A → ℕ → Type 0
TakesOrPasses true x i cells left part given next = (left ≡ remove cells i) × (given ≡ part ++ x ∷ []) × (next ≡ i)
TakesOrPasses false x i cells left part given next = (left ≡ cells) × (given ≡ part) × (next ≡ i + 1)
