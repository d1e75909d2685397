-- an arena of places, each of them in one of its lists or in none
use Rattle.std.specs.Prelude.{◌≡◌, ℕ, ◌<◌, Bool, true, List, [], ◌∷◌, ◌++◌, length, map, nat_eq, slice_get, slice_set, slice_index_or, Option, Some, None, ◌-◌, if◌then◌else◌}
use Rattle.std.specs.List.{list_any}
use Rattle.st_limits.specs.Cache.{has, without, promoted, AreDistinct}

pub record Arena : Type 0 where
  pub lists : List (List ℕ)
  pub places : ℕ

-- the list of that number, or no place where there is no such list
abbrev pub row : List (List ℕ) → ℕ → List ℕ
row lists l = slice_index_or lists l []

-- whether a list has the place
abbrev pub is_linked : List (List ℕ) → ℕ → Bool
is_linked lists p = list_any (has p) lists

-- the lists with the place put first, or last, into one of them
abbrev pub pushed_front : List (List ℕ) → ℕ → ℕ → List (List ℕ)
pushed_front lists l p = slice_set lists l (p ∷ row lists l)

abbrev pub pushed_back : List (List ℕ) → ℕ → ℕ → List (List ℕ)
pushed_back lists l p = slice_set lists l (row lists l ++ p ∷ [])

-- the lists without the place
abbrev pub unlinked : List (List ℕ) → ℕ → List (List ℕ)
unlinked lists p = map (without p) lists

-- the lists with the place first in the one that has it
abbrev pub fronted : List (List ℕ) → ℕ → List (List ℕ)
fronted lists p = map (promoted p) lists

-- the first place of a list, and the last
abbrev pub first_of : List ℕ → Option ℕ
first_of xs = slice_get xs 0

abbrev pub last_of : List ℕ → Option ℕ
last_of xs = slice_get xs (length xs - 1)

-- the place behind that one
abbrev pub after : ℕ → List ℕ → Option ℕ
after p [] = None
after p (x ∷ xs) = if nat_eq p x then first_of xs else after p xs

-- the place before that one, where `front` stands before the list
abbrev pub before_from : Option ℕ → ℕ → List ℕ → Option ℕ
before_from front p [] = None
before_from front p (x ∷ xs) = if nat_eq p x then front else before_from (Some x) p xs

abbrev pub before : ℕ → List ℕ → Option ℕ
before p xs = before_from None p xs

-- the same in the list that has the place
abbrev pub next_of : List (List ℕ) → ℕ → Option ℕ
next_of [] p = None
next_of (xs ∷ lists) p = if has p xs then after p xs else next_of lists p

abbrev pub prev_of : List (List ℕ) → ℕ → Option ℕ
prev_of [] p = None
prev_of (xs ∷ lists) p = if has p xs then before p xs else prev_of lists p

-- what holds of every arena
pub record IsArena (lists : List (List ℕ)) (places : ℕ) : Type 0 where
  -- a list has numbers of places
  pub within : (l p : ℕ) → has p (row lists l) ≡ true → p < places
  -- and none of them twice
  pub once : (l : ℕ) → AreDistinct (row lists l)
  -- a place is in one list at most
  pub apart : (k l p : ℕ) → k < length lists → l < length lists → has p (row lists k) ≡ true → has p (row lists l) ≡ true → k ≡ l
