-- The order of paths, and of devices whose paths rise.
use Rattle.std.proofs.Common.{◌≡◌, inl, inr, ℕ, zero, suc, ◌<◌, true, false, List, [], ◌∷◌, length, get_or, map, refl, sym, ◌∙◌, ap, subst, arith}
use Rattle.std.proofs.Common.{Ordering, Less, Equal, Greater}
use Rattle.std.specs.Ordering.{nat_cmp, is_lt, is_eq, ordering_reverse}
use Rattle.std.specs.Cmp.Lexicographic.{slice_cmp}
use Rattle.std.specs.Str.{bytes_eq}
use Rattle.std.specs.List.{AllByRecursion}
use Rattle.std.specs.List.Sorted.{IsStrictlySortedBy, IsPartitionedBy}
use Rattle.std.proofs.lemmas.Cmp.{nat_list_cmp_total}
use Rattle.std.proofs.lemmas.Map.Text.{is_eq-slice_cmp}
use Rattle.std.proofs.lemmas.Bool.{cases_lt}
use Rattle.st_rack.specs.Device.{Path}
use Rattle.st_rack.specs.Calls.{Rises, path_in}
use Rattle.st_shelf.specs.Shelf.{comes_before, rows_of}

abbrev cmp : Path → Path → Ordering
cmp = slice_cmp nat_cmp

less_of : (o : Ordering) → is_lt o ≡ true → o ≡ Less
less_of Less h = refl
less_of Equal h = absurd cc
less_of Greater h = absurd cc

pub before_less : (p q : Path) → comes_before p q ≡ true → cmp p q ≡ Less
before_less p q h = less_of (cmp p q) h

pub less_before : (p q : Path) → cmp p q ≡ Less → comes_before p q ≡ true
less_before p q h = ap is_lt h

-- of two different paths one comes before the other
after_of : (o r : Ordering) → o ≡ ordering_reverse r → is_lt o ≡ false → is_eq o ≡ false → r ≡ Less
after_of o Less turned not_less not_same = refl
after_of o Equal turned not_less not_same = absurd (let e : is_eq o ≡ true = ap is_eq turned in cc)
after_of o Greater turned not_less not_same = absurd (let e : is_lt o ≡ true = ap is_lt turned in cc)

pub not_before : (p q : Path) → comes_before p q ≡ false → bytes_eq p q ≡ false → cmp q p ≡ Less
not_before p q h ne = after_of (cmp p q) (cmp q p) (nat_list_cmp_total.antisymm p q) h (is_eq-slice_cmp p q ∙ ne)

apart_of : (o : Ordering) → o ≡ Less → is_eq o ≡ false
apart_of o h = ap is_eq h

pub less_apart : (p q : Path) → cmp p q ≡ Less → bytes_eq p q ≡ false
less_apart p q h = sym (is_eq-slice_cmp p q) ∙ apart_of (cmp p q) h

pub less_less : (p q r : Path) → cmp p q ≡ Less → cmp q r ≡ Less → cmp p r ≡ Less
less_less p q r one two = nat_list_cmp_total.trans p q r one two

-- each path of the list comes after this one
abbrev pub Below : Path → List Path → Type 0
Below p ps = AllByRecursion (λ q. cmp p q ≡ Less) ps

pub below_below : (p q : Path) (ps : List Path) → cmp p q ≡ Less → Below q ps → Below p ps
below_below p q [] less h = tt
below_below p q (r ∷ ps) less h = (nat_list_cmp_total.trans p q r less h.0, below_below p q ps less h.1)

module _ {D : Type 0} (path : D → Path) (size : D → ℕ) where
  abbrev pub paths : List D → List Path
  paths l = map path_in (rows_of path size l)

  pub rises_first : (d : D) (l : List D) → Rises (rows_of path size (d ∷ l)) → Below (path d) (paths l)
  unfolding IsStrictlySortedBy
  rises_first d l h = h.0

  pub rises_rest : (d : D) (l : List D) → Rises (rows_of path size (d ∷ l)) → Rises (rows_of path size l)
  unfolding IsStrictlySortedBy
  rises_rest d l h = h.1

  pub rises_more : (d : D) (l : List D) → Below (path d) (paths l) → Rises (rows_of path size l) → Rises (rows_of path size (d ∷ l))
  unfolding IsStrictlySortedBy
  rises_more d l below h = (below, h)

  pub rises_none : Rises (rows_of path size [])
  unfolding IsStrictlySortedBy
  rises_none = tt

  pub below_at : (p : Path) (l : List D) (i : ℕ) (d : D) → Below p (paths l) → i < length l → cmp p (path (get_or l i d)) ≡ Less
  below_at p [] i d h lt = absurd (omega arith)
  below_at p (x ∷ l) zero d h lt = h.0
  below_at p (x ∷ l) (suc i) d h lt = below_at p l i d h.1 (omega arith)

  -- paths rise by index
  pub rises_at : (l : List D) (i j : ℕ) (d : D) → Rises (rows_of path size l) → i < j → j < length l → cmp (path (get_or l i d)) (path (get_or l j d)) ≡ Less
  rises_at [] i j d h less lt = absurd (omega arith)
  rises_at (x ∷ l) zero zero d h less lt = absurd (omega arith)
  rises_at (x ∷ l) zero (suc j) d h less lt = below_at (path x) l j d (rises_first x l h) (omega arith)
  rises_at (x ∷ l) (suc i) zero d h less lt = absurd (omega arith)
  rises_at (x ∷ l) (suc i) (suc j) d h less lt = rises_at l i j d (rises_rest x l h) (omega arith) (omega arith)

  -- those that come before a path stand first
  pub partitioned : (l : List D) (p : Path) → Rises (rows_of path size l) → IsPartitionedBy (λ d. comes_before (path d) p) l
  partitioned l p h = λ i j d le lt before. elim (cases_lt i j) [
    | inl less ↦ less_before (path (get_or l i d)) p (nat_list_cmp_total.trans (path (get_or l i d)) (path (get_or l j d)) p (rises_at l i j d h less lt) (before_less (path (get_or l j d)) p before))
    | inr ge ↦ let same : j ≡ i = omega arith in subst (λ (k : ℕ). comes_before (path (get_or l k d)) p ≡ true) same before
  ]
