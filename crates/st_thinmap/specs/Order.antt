-- the order of mappings: by filesystem, and in it by block
use Rattle.std.specs.Prelude.{ℕ, ◌+◌, ◌*◌, ◌^◌, ◌≤◌, nat_lt, nat_eq, List, [], ◌∷◌, Option, find, if◌then◌else◌}
use Rattle.st_thinmap.specs.declared.mapping.Mapping.{Mapping}

-- a filesystem and a block of it as one number, which rises with both
abbrev pub key_of : ℕ → ℕ → ℕ
key_of fs block = fs * 2 ^ 32 + block

abbrev pub key : Mapping → ℕ
key m = key_of m.fs m.block

-- the items rise strictly by their numbers, from `low` on
abbrev pub RisesFrom : {X : Type 0} → (X → ℕ) → ℕ → List X → Type 0
RisesFrom f low [] = Unit {0}
RisesFrom f low (x ∷ xs) = (low ≤ f x) × RisesFrom f (f x + 1) xs

-- the item of that number
abbrev pub item_at : {X : Type 0} → (X → ℕ) → ℕ → List X → Option X
item_at f k xs = find (λ x. nat_eq (f x) k) xs

-- the mapping of a block
abbrev pub mapping_at : ℕ → ℕ → List Mapping → Option Mapping
mapping_at fs block rows = item_at key (key_of fs block) rows

-- rows in order with one more, which replaces the one of its block
abbrev pub put : Mapping → List Mapping → List Mapping
put m [] = m ∷ []
put m (r ∷ rows) = if nat_lt (key r) (key m) then r ∷ put m rows else (if nat_eq (key r) (key m) then m ∷ rows else m ∷ r ∷ rows)
