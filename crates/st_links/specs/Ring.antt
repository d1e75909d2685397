-- how the arrays of `Links` stand for an arena: each list is a ring through a sentinel of its own, which is a node past the places
use Rattle.std.specs.Prelude.{◌≡◌, ℕ, suc, zero, ◌+◌, ◌<◌, true, nat_eq, nat_lt, List, [], ◌∷◌, length, slice_index, slice_set, Option, Some, None, if◌then◌else◌}
use Rattle.st_limits.specs.Cache.{has, AreDistinct}
use Rattle.st_links.specs.Arena.{row}

-- the first item, or d where there is none
abbrev pub first_or : ℕ → List ℕ → ℕ
first_or d [] = d
first_or d (x ∷ xs) = x

-- what stands behind y, or d behind the last
abbrev pub follower : ℕ → List ℕ → ℕ → ℕ
follower d [] y = d
follower d (x ∷ xs) y = if nat_eq y x then first_or d xs else follower d xs y

-- the arrays, which have m items, hold the ring d ∷ xs of list l
pub record Ring (nx pv hm : List ℕ) (m l d : ℕ) (xs : List ℕ) : Type 0 where
  -- its nodes know their list
  pub inside : (y : ℕ) → has y (d ∷ xs) ≡ true → (y < m) × (slice_index hm y ≡ l)
  pub once : AreDistinct (d ∷ xs)
  -- each node names the one behind it, which names it
  pub forth : (y : ℕ) → has y (d ∷ xs) ≡ true → slice_index nx y ≡ follower d (d ∷ xs) y
  pub back : (y : ℕ) → has y (d ∷ xs) ≡ true → slice_index pv (slice_index nx y) ≡ y

-- the nodes from y on until d comes, `most` at most
abbrev pub walk : List ℕ → ℕ → ℕ → ℕ → List ℕ
walk nx d zero y = []
walk nx d (suc most) y = if nat_eq y d then [] else y ∷ walk nx d most (slice_index nx y)

-- the lists from l on, `count` of them, with n places
abbrev pub rows_from : List ℕ → ℕ → ℕ → ℕ → List (List ℕ)
rows_from nx n l zero = []
rows_from nx n l (suc count) = walk nx (n + l) n (slice_index nx (n + l)) ∷ rows_from nx n (suc l) count

abbrev pub rows : List ℕ → ℕ → ℕ → List (List ℕ)
rows nx n count = rows_from nx n 0 count

-- the arrays hold the rings of these lists, `count` of them, over n places
pub record Linked (nx pv hm : List ℕ) (n count : ℕ) (lists : List (List ℕ)) : Type 0 where
  pub long_next : n + count ≡ length nx
  pub long_prev : n + count ≡ length pv
  pub long_home : n + count ≡ length hm
  pub counted : length lists ≡ count
  pub rings : (l : ℕ) → l < count → Ring nx pv hm (n + count) l (n + l) (row lists l)
  -- the lists have places
  pub small : (l y : ℕ) → l < count → has y (row lists l) ≡ true → y < n

-- and a place that names a list stands in it
pub record Tied (nx pv hm : List ℕ) (n count : ℕ) (lists : List (List ℕ)) : Type 0 where
  pub linked : Linked nx pv hm n count lists
  pub held : (p : ℕ) → p < n → slice_index hm p < count → has p (row lists (slice_index hm p)) ≡ true

-- a node as a place: a sentinel is none
abbrev pub as_place : ℕ → ℕ → Option ℕ
as_place n y = if nat_lt y n then Some y else None

-- the arrays with a node taken out of its ring
abbrev pub taken_next : List ℕ → List ℕ → ℕ → List ℕ
taken_next nx pv p = slice_set nx (slice_index pv p) (slice_index nx p)

abbrev pub taken_prev : List ℕ → List ℕ → ℕ → List ℕ
taken_prev nx pv p = slice_set pv (slice_index nx p) (slice_index pv p)

-- the arrays with node p put behind node a
abbrev pub put_next : List ℕ → ℕ → ℕ → List ℕ
put_next nx a p = slice_set (slice_set nx p (slice_index nx a)) a p

abbrev pub put_prev : List ℕ → List ℕ → ℕ → ℕ → List ℕ
put_prev nx pv a p = slice_set (slice_set pv p a) (slice_index nx a) p

-- each of m nodes names itself
pub record IsSelf (xs : List ℕ) (m : ℕ) : Type 0 where
  pub long : length xs ≡ m
  pub self_at : (k : ℕ) → k < m → slice_index xs k ≡ k

-- n places name none of `count` lists, and the sentinels of the first `own` lists name their own
pub record IsHome (xs : List ℕ) (n count own : ℕ) : Type 0 where
  pub long : length xs ≡ n + own
  pub free : (k : ℕ) → k < n → slice_index xs k ≡ count
  pub sentinels : (l : ℕ) → l < own → slice_index xs (n + l) ≡ l
