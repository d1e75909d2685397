-- where a number stands among items that rise
use Rattle.std.specs.Prelude.{ℕ, suc, nat_lt, List, [], ◌∷◌, if◌then◌else◌}

-- how many items at the front have lower numbers
abbrev pub rank : {X : Type 0} → (X → ℕ) → ℕ → List X → ℕ
rank f k [] = 0
rank f k (x ∷ xs) = if nat_lt (f x) k then suc (rank f k xs) else 0
