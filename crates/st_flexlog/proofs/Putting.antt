-- A mapping is put where the first stands that isn't in front of it.
use Rattle.std.proofs.Common.{◌≡◌, ℕ, suc, ◌+◌, ◌≤◌, Bool, true, false, not, cond, List, [], ◌∷◌, ◌++◌, length, Some, None, refl, ap, ◌∙◌, arith}
use Rattle.std.specs.Prelude.{slice_get, slice_set, insert, nat_lt}
use Rattle.std.specs.List.{position, position_or_len}
use Rattle.std.proofs.lemmas.Bool.{ltb-false}
use Rattle.st_flexlog.specs.declared.state.Mapping.{Mapping}
use Rattle.st_flexlog.specs.Applied.{stands_before, is_of_block, put_mapping}

-- where the mapping belongs
abbrev place_in : Mapping → List Mapping → ℕ
place_in m ms = position_or_len (λ other. not (stands_before other m)) ms

abbrev placed : Bool → Bool → Mapping → Mapping → List Mapping → List Mapping → List Mapping
placed before same m x put xs = cond before (x ∷ put) (cond same (m ∷ xs) (m ∷ (x ∷ xs)))

abbrev place_by : Bool → ℕ → ℕ
place_by before n = cond (not (not before)) (1 + n) 0

set_there : (m : Mapping) (ms : List Mapping) (other : Mapping) → slice_get ms (place_in m ms) ≡ Some other → is_of_block m other ≡ true → put_mapping m ms ≡ slice_set ms (place_in m ms) m
set_there m [] other got same = absurd cc
set_there m (x ∷ xs) other got same = by (stands_before x m) got (λ later. set_there m xs other later same)
  where
    by : (b : Bool) → slice_get (x ∷ xs) (place_by b (place_in m xs)) ≡ Some other → (slice_get xs (place_in m xs) ≡ Some other → put_mapping m xs ≡ slice_set xs (place_in m xs) m)
        → placed b (is_of_block m x) m x (put_mapping m xs) xs ≡ slice_set (x ∷ xs) (place_by b (place_in m xs)) m
    by true got later =
        let next : suc (place_in m xs) ≡ 1 + place_in m xs = omega arith in
        ap (λ (l : List Mapping). x ∷ l) (later (ap (λ (k : ℕ). slice_get (x ∷ xs) k) next ∙ got)) ∙ ap (λ (k : ℕ). slice_set (x ∷ xs) k m) next
    by false got later =
        let is : x ≡ other = cc in
        ap (λ (b : Bool). cond b (m ∷ xs) (m ∷ (x ∷ xs))) (ap (is_of_block m) is ∙ same)

put_there : (m : Mapping) (ms : List Mapping) (other : Mapping) → slice_get ms (place_in m ms) ≡ Some other → is_of_block m other ≡ false → put_mapping m ms ≡ insert ms (place_in m ms) m
put_there m [] other got same = absurd cc
put_there m (x ∷ xs) other got same = by (stands_before x m) got (λ later. put_there m xs other later same)
  where
    by : (b : Bool) → slice_get (x ∷ xs) (place_by b (place_in m xs)) ≡ Some other → (slice_get xs (place_in m xs) ≡ Some other → put_mapping m xs ≡ insert xs (place_in m xs) m)
        → placed b (is_of_block m x) m x (put_mapping m xs) xs ≡ insert (x ∷ xs) (place_by b (place_in m xs)) m
    by true got later =
        let next : suc (place_in m xs) ≡ 1 + place_in m xs = omega arith in
        ap (λ (l : List Mapping). x ∷ l) (later (ap (λ (k : ℕ). slice_get (x ∷ xs) k) next ∙ got)) ∙ ap (λ (k : ℕ). insert (x ∷ xs) k m) next
    by false got later =
        let is : x ≡ other = cc in
        ap (λ (b : Bool). cond b (m ∷ xs) (m ∷ (x ∷ xs))) (ap (is_of_block m) is ∙ same)

put_last : (m : Mapping) (ms : List Mapping) → length ms ≤ place_in m ms → put_mapping m ms ≡ ms ++ m ∷ []
put_last m [] past = refl
put_last m (x ∷ xs) past = by (stands_before x m) past (λ later. put_last m xs later)
  where
    by : (b : Bool) → suc (length xs) ≤ place_by b (place_in m xs) → (length xs ≤ place_in m xs → put_mapping m xs ≡ xs ++ m ∷ [])
        → placed b (is_of_block m x) m x (put_mapping m xs) xs ≡ (x ∷ xs) ++ m ∷ []
    by true past later = ap (λ (l : List Mapping). x ∷ l) (later (omega arith))
    by false past later = absurd (omega arith)

-- what `position` says
first_at : (p : Mapping → Bool) (ms : List Mapping) (at : ℕ) → position p ms ≡ Some at → position_or_len p ms ≡ at
first_at p ms at e = by (nat_lt (position_or_len p ms) (length ms)) e
  where
    by : (b : Bool) → cond b (Some (position_or_len p ms)) None ≡ Some at → position_or_len p ms ≡ at
    by true e = cc
    by false e = absurd cc

none_at : (p : Mapping → Bool) (ms : List Mapping) → position p ms ≡ None → nat_lt (position_or_len p ms) (length ms) ≡ false
none_at p ms e = by (nat_lt (position_or_len p ms) (length ms)) e
  where
    by : (b : Bool) → cond b (Some (position_or_len p ms)) None ≡ None → b ≡ false
    by true e = absurd cc
    by false e = refl

pub is_set : (m other : Mapping) (ms : List Mapping) (at : ℕ) → position (λ other. not (stands_before other m)) ms ≡ Some at → slice_get ms at ≡ Some other → is_of_block m other ≡ true → put_mapping m ms ≡ slice_set ms at m
is_set m other ms at first got same =
    let here = first_at (λ other. not (stands_before other m)) ms at first in
    set_there m ms other (ap (λ (k : ℕ). slice_get ms k) here ∙ got) same ∙ ap (λ (k : ℕ). slice_set ms k m) here

pub is_put : (m other : Mapping) (ms : List Mapping) (at : ℕ) → position (λ other. not (stands_before other m)) ms ≡ Some at → slice_get ms at ≡ Some other → is_of_block m other ≡ false → put_mapping m ms ≡ insert ms at m
is_put m other ms at first got same =
    let here = first_at (λ other. not (stands_before other m)) ms at first in
    put_there m ms other (ap (λ (k : ℕ). slice_get ms k) here ∙ got) same ∙ ap (λ (k : ℕ). insert ms k m) here

pub is_last : (m : Mapping) (ms : List Mapping) → position (λ other. not (stands_before other m)) ms ≡ None → put_mapping m ms ≡ ms ++ m ∷ []
is_last m ms none = put_last m ms (ltb-false _ _ (none_at (λ other. not (stands_before other m)) ms none))
