-- the table of uses beside the mappings
use Rattle.std.specs.Prelude.{◌≡◌, ℕ, Bool, nat_eq, List, Option, Some, None, if◌then◌else◌}
use Rattle.std.specs.List.{count_by}
use Rattle.st_thinmap.specs.declared.mapping.Mapping.{Mapping}
use Rattle.st_thinmap.specs.declared.uses.Use.{Use}
use Rattle.st_thinmap.specs.inner.Uses.{IsTable, count_in}

-- whether the mapping has the place
abbrev pub lies_at : ℕ → Mapping → Bool
lies_at p m = nat_eq m.place p

-- the table counts just the mappings of each place
abbrev pub Tied : List Use → List Mapping → Type 0
Tied uses rows = IsTable uses × ((p : ℕ) → count_in uses p ≡ count_by (lies_at p) rows)

-- 1 where there is a mapping that passes
abbrev pub one_of : (Mapping → Bool) → Option Mapping → ℕ
one_of p None = 0
one_of p (Some m) = if p m then 1 else 0

-- 1 where it is so
abbrev pub one : Bool → ℕ
one b = if b then 1 else 0
