-- how often each place is used
use Rattle.std.specs.Prelude.{◌≡◌, ℕ, ◌<◌, nat_eq, List, [], ◌∷◌, if◌then◌else◌}
use Rattle.std.specs.List.{All}
use Rattle.st_thinmap.specs.declared.uses.Use.{Use}
use Rattle.st_thinmap.specs.Order.{RisesFrom}
use Rattle.st_thinmap.specs.inner.Rank.{rank}

abbrev pub place : Use → ℕ
place use_ = use_.place

-- the count of a place; 0 where it isn't in the table
abbrev pub count_in : List Use → ℕ → ℕ
count_in [] p = 0
count_in (u ∷ uses) p = if nat_eq u.place p then u.count else count_in uses p

-- places rise, and each has a use
abbrev pub IsTable : List Use → Type 0
IsTable uses = RisesFrom place 0 uses × All (λ (u : Use). 0 < u.count) uses

-- one use more of a place, or one less
abbrev pub one_if : ℕ → ℕ → ℕ
one_if p q = if nat_eq p q then 1 else 0

-- just n places below p are in use
abbrev pub IsFreeAt : List Use → ℕ → ℕ → Type 0
IsFreeAt uses p n = rank place p uses ≡ n
