-- what a thin map stands for, and what its calls make of it
use Rattle.std.specs.Prelude.{◌≡◌, ◌≢◌, ℕ, ◌+◌, ◌^◌, ◌<◌, ◌≤◌, not, nat_eq, nat_lt, List, [], ◌∷◌, length, map, filter, if◌then◌else◌}
use Rattle.std.specs.List.{All}
use Rattle.st_limits.specs.Cache.{has}
use Rattle.st_limits.specs.Sums as sums
use Rattle.st_limits.specs.declared.TheConstants.{MAX_MAPPINGS}
use Rattle.st_thinmap.specs.declared.mapping.Mapping.{Mapping}
use Rattle.st_thinmap.specs.declared.plan.Fresh.{Fresh}
use Rattle.st_thinmap.specs.Order.{RisesFrom, key, put}

-- the mappings in order, the number of the next fresh cell, and how many mappings more take no memory
pub record Thin : Type 0 where
  pub rows : List Mapping
  pub next : ℕ
  pub room : ℕ

-- the cells of all mappings, one for each
abbrev pub cells_of : List Mapping → List ℕ
cells_of rows = map (λ m. m.cell) rows

-- the mappings of a filesystem, and those of all others
abbrev pub of_fs : ℕ → List Mapping → List Mapping
of_fs fs rows = filter (λ m. nat_eq m.fs fs) rows

abbrev pub without_fs : ℕ → List Mapping → List Mapping
without_fs fs rows = filter (λ m. not (nat_eq m.fs fs)) rows

-- the cells of a filesystem's mappings that no other filesystem's mapping has
abbrev pub gone_with : ℕ → List Mapping → List ℕ
gone_with fs rows = filter (λ c. not (has c (cells_of (without_fs fs rows)))) (cells_of (of_fs fs rows))

-- a filesystem's map, as pairs of block and cell
abbrev pub map_of : ℕ → List Mapping → List (ℕ × ℕ)
map_of fs rows = map (λ m. (m.block, m.cell)) (of_fs fs rows)

-- two mappings have one cell just where they have one place
abbrev pub AgreesWith : Mapping → Mapping → Type 0
AgreesWith a b = nat_eq a.cell b.cell ≡ nat_eq a.place b.place

-- what holds of every thin map
pub record IsThin (rows : List Mapping) (next : ℕ) : Type 0 where
  pub order : RisesFrom key 0 rows
  pub few : length rows ≤ MAX_MAPPINGS
  pub blocks : All (λ m. m.block < 2 ^ 32) rows
  pub cells : All (λ m. m.cell < next) rows
  pub paired : All (λ a. All (AgreesWith a) rows) rows

-- the same mapping of another filesystem
abbrev pub with_fs : ℕ → Mapping → Mapping
with_fs fs m = record { fs = fs; block = m.block; cell = m.cell; place = m.place }

-- the mapping to a fresh cell
abbrev pub fresh_mapping : ℕ → Fresh → Mapping
fresh_mapping fs fresh = record { fs = fs; block = fresh.block; cell = fresh.cell; place = fresh.place }

-- the mappings with those of fresh cells put in
abbrev pub with_fresh : ℕ → List Fresh → List Mapping → List Mapping
with_fresh fs [] rows = rows
with_fresh fs (x ∷ xs) rows = with_fresh fs xs (put (fresh_mapping fs x) rows)

-- fresh cells that may be put in: the next numbers, places that nothing has, and no mapping too many
abbrev pub Fits : ℕ → List Fresh → List Mapping → ℕ → Type 0
Fits fs [] rows next = Unit {0}
Fits fs (x ∷ xs) rows next =
    (x.cell ≡ next) × (x.block < 2 ^ 32) × All (λ m. m.place ≢ x.place) rows × (length (put (fresh_mapping fs x) rows) ≤ MAX_MAPPINGS)
    × Fits fs xs (put (fresh_mapping fs x) rows) (next + 1)

-- the blocks that a write touches, two at most
abbrev pub touched : ℕ → ℕ → List ℕ
touched first last = if nat_lt first last then first ∷ last ∷ [] else first ∷ []

abbrev pub needed : ℕ → ℕ → ℕ → List Mapping → ℕ
needed fs first last rows = sums.needed (map_of fs rows) (cells_of rows) (touched first last)

abbrev pub more : ℕ → ℕ → ℕ → List Mapping → ℕ
more fs first last rows = sums.more (map_of fs rows) (touched first last)

abbrev pub used : List Mapping → ℕ
used rows = sums.used (cells_of rows)
