-- the cache list as clauses see it: the cells with their places, the one used last first
use Rattle.std.specs.Prelude.{◌≡◌, ℕ, ◌<◌, ◌≤◌, true, not, List, ◌∷◌, ◌++◌, length, take, filter, nat_eq, Option, Some, None}
use Rattle.std.specs.Map.{lookup, keys_of, values_of}
use Rattle.st_limits.specs.Cache.{has, fallen, counted, AreDistinct}
use Rattle.st_cachemap.specs.declared.answer.Touch.{Touch}
use Rattle.st_cachemap.specs.declared.answer.Touch.TheVariants.{Hit, Miss}

pub record Cached : Type 0 where
  pub capacity : ℕ
  pub entries : List (ℕ × ℕ)
  pub hits : ℕ
  pub misses : ℕ

-- the cells in order, and their places
abbrev pub cells_of : Cached → List ℕ
cells_of c = keys_of c.entries

abbrev pub places_of : Cached → List ℕ
places_of c = values_of c.entries

-- the place of a cell of the list
abbrev pub place_in : List (ℕ × ℕ) → ℕ → Option ℕ
place_in entries cell = lookup (nat_eq cell) entries

-- the entries without that cell, and without that place
abbrev pub without_cell : ℕ → List (ℕ × ℕ) → List (ℕ × ℕ)
without_cell cell entries = filter (λ e. not (nat_eq cell e.0)) entries

abbrev pub without_place : ℕ → List (ℕ × ℕ) → List (ℕ × ℕ)
without_place place entries = filter (λ e. not (nat_eq place e.1)) entries

-- the cell goes first, with its place
abbrev pub fronted_at : ℕ → ℕ → List (ℕ × ℕ) → List (ℕ × ℕ)
fronted_at cell place entries = (cell, place) ∷ without_cell cell entries

-- the place that a touch answers
abbrev pub touch_place : Touch → ℕ
touch_place (Hit place) = place
touch_place (Miss place out) = place

-- what a touch answers: a hit at the cell's place exactly where the list has the cell, else the cell that falls out
abbrev pub IsTouch : Cached → ℕ → Touch → Type 0
IsTouch c cell (Hit place) = place_in c.entries cell ≡ Some place
IsTouch c cell (Miss place out) = (place_in c.entries cell ≡ None) × (out ≡ fallen c.capacity cell (cells_of c))

-- what holds of every cache
pub record IsCached (c : Cached) : Type 0 where
  pub cells_differ : AreDistinct (cells_of c)
  pub places_differ : AreDistinct (places_of c)
  pub within : (place : ℕ) → has place (places_of c) ≡ true → place < c.capacity
  pub fits : length c.entries ≤ c.capacity
  pub some : 0 < c.capacity

-- what a touch of a cell that the list lacks answers, and what it leaves
pub record Missed (old new : Cached) (cell place : ℕ) (out : Option ℕ) : Type 0 where
  pub out_is : out ≡ fallen old.capacity cell (cells_of old)
  pub entries : new.entries ≡ take old.capacity ((cell, place) ∷ old.entries)
  pub rest : new ≡ record old { entries = new.entries; misses = counted old.misses }

abbrev pub MissedAt : Cached → Cached → ℕ → Touch → Type 0
MissedAt old new cell (Hit place) = ⊥
MissedAt old new cell (Miss place out) = Missed old new cell place out

-- entries go over from one map to another, the last first
pub record Handed (to from to_now from_now : Cached) : Type 0 where
  pub all : from_now.entries ++ to_now.entries ≡ from.entries
  pub to_rest : to_now ≡ record to { entries = to_now.entries }
  pub from_rest : from_now ≡ record from { entries = from_now.entries }
