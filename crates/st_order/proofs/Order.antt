-- lists in byte order of a text of each item
use Rattle.std.proofs.Common.{◌≡◌, ℕ, zero, suc, ◌<◌, ◌≤◌, arith, List, [], ◌∷◌, length, get_or, set, Bool, true, false, cond, not, ◌||◌, bytes_eq, map, insert, remove, Some, None, Ordering, Less, Equal, Greater, refl, sym, ap, subst, ◌∙◌, ⊎_elim, Result, Ok, Err, IfOk, IfErr}
use Rattle.std.specs.Prelude.{find, filter, nat_eq}
use Rattle.std.specs.List.{AllByRecursion, IsDistinct, list_any}
use Rattle.std.specs.List.Sorted.{IsStrictlySortedBy, IsSortedBy, IsSearchInRange, IsBinarySearchResult}
use Rattle.std.proofs.lemmas.List.Sorted.{searchable_from_sorted}
use Rattle.std.specs.Ordering.{is_lt, is_eq, nat_cmp, ordering_reverse}
use Rattle.std.specs.Cmp.Lexicographic.{slice_cmp}
use Rattle.std.proofs.lemmas.Bool.{cases_lt}
use Rattle.std.proofs.lemmas.Cmp.{nat_list_cmp_total, nat_list_eq_equiv}
use Rattle.std.proofs.lemmas.Map.Text.{is_eq-slice_cmp}
use Rattle.std.proofs.lemmas.Slice.Eq.{bytes_eq-Decides}
use native.Mathlib.Numerals.{unary_clauses}
use Rattle.st_order.specs.Sorted.{Text, is_below, IsRising, entered}

abbrev pub text_cmp : Text → Text → Ordering
text_cmp = slice_cmp nat_cmp

pub eq_same : (a b : Text) → bytes_eq a b ≡ true → a ≡ b
eq_same a b = (bytes_eq-Decides a b).0

pub eq_self : (a : Text) → bytes_eq a a ≡ true
eq_self a = (bytes_eq-Decides a a).1 refl

pub eq_turned : (a b : Text) → bytes_eq a b ≡ bytes_eq b a
eq_turned a b = nat_list_eq_equiv.symm a b

pub tied_eq : (a b : Text) → text_cmp a b ≡ Equal → bytes_eq a b ≡ true
tied_eq a b h = sym (is_eq-slice_cmp a b) ∙ ap is_eq h

pub less_apart : (a b : Text) → text_cmp a b ≡ Less → bytes_eq a b ≡ false
less_apart a b h = sym (is_eq-slice_cmp a b) ∙ ap is_eq h

pub more_apart : (a b : Text) → text_cmp a b ≡ Greater → bytes_eq a b ≡ false
more_apart a b h = sym (is_eq-slice_cmp a b) ∙ ap is_eq h

pub less_of : (o : Ordering) → is_lt o ≡ true → o ≡ Less
less_of Less h = refl
less_of Equal h = absurd cc
less_of Greater h = absurd cc

more_of : (o r : Ordering) → o ≡ ordering_reverse r → is_lt o ≡ false → is_eq o ≡ false → r ≡ Less
more_of o Less turned below same = refl
more_of o Equal turned below same = absurd (let e : is_eq o ≡ true = ap is_eq turned in cc)
more_of o Greater turned below same = absurd (let e : is_lt o ≡ true = ap is_lt turned in cc)

-- of two different texts one is below the other
pub other_way : (a b : Text) → is_below a b ≡ false → bytes_eq a b ≡ false → text_cmp b a ≡ Less
other_way a b below apart = more_of (text_cmp a b) (text_cmp b a) (nat_list_cmp_total.antisymm a b) below (is_eq-slice_cmp a b ∙ apart)

not_both : (o r : Ordering) → o ≡ Less → r ≡ ordering_reverse o → is_lt r ≡ false
not_both o r h turned = ap is_lt (turned ∙ ap ordering_reverse h)

pub below_below : (a b : Text) (ts : List Text) → text_cmp a b ≡ Less → AllByRecursion (λ t. text_cmp b t ≡ Less) ts → AllByRecursion (λ t. text_cmp a t ≡ Less) ts
below_below a b [] less h = tt
below_below a b (t ∷ ts) less h = (nat_list_cmp_total.trans a b t less h.0, below_below a b ts less h.1)

pub or_false : (a : Bool) → (a || false) ≡ a
or_false true = refl
or_false false = refl

or_turned : (a b c : Bool) → (a || (b || c)) ≡ (b || (a || c))
or_turned true true c = refl
or_turned true false c = refl
or_turned false b c = refl

module _ {X : Type 0} (key : X → Text) where
  pub rising_first : (x : X) (xs : List X) → IsRising (map key (x ∷ xs)) → AllByRecursion (λ t. text_cmp (key x) t ≡ Less) (map key xs)
  unfolding IsStrictlySortedBy
  rising_first x xs h = h.0

  pub rising_rest : (x : X) (xs : List X) → IsRising (map key (x ∷ xs)) → IsRising (map key xs)
  unfolding IsStrictlySortedBy
  rising_rest x xs h = h.1

  pub rising_more : (x : X) (xs : List X) → AllByRecursion (λ t. text_cmp (key x) t ≡ Less) (map key xs) → IsRising (map key xs) → IsRising (map key (x ∷ xs))
  unfolding IsStrictlySortedBy
  rising_more x xs first rest = (first, rest)

  pub rising_none : IsRising (map key [])
  unfolding IsStrictlySortedBy
  rising_none = tt

  pub first_at : (t : Text) (xs : List X) (i : ℕ) (d : X) → AllByRecursion (λ u. text_cmp t u ≡ Less) (map key xs) → i < length xs → text_cmp t (key (get_or xs i d)) ≡ Less
  first_at t [] i d h lt = absurd (omega arith)
  first_at t (x ∷ xs) zero d h lt = h.0
  first_at t (x ∷ xs) (suc i) d h lt = first_at t xs i d h.1 (omega arith)

  -- what a search by halving asks
  pub sorted : (xs : List X) → IsRising (map key xs) → IsSortedBy (λ a b. is_lt (slice_cmp nat_cmp (key a) (key b))) xs
  sorted [] h k d low high = absurd (omega arith)
  sorted (x ∷ xs) h zero d low high = not_both _ _ (first_at (key x) xs 0 d (rising_first x xs h) (omega arith)) (nat_list_cmp_total.antisymm (key (get_or xs 0 d)) (key x))
  sorted (x ∷ xs) h (suc k) d low high = simp unary_clauses (simp unary_clauses at (sorted xs (rising_rest x xs h) k d (omega arith) (omega arith)))

  -- the other items have other texts
  pub others_differ : (t : Text) (xs : List X) → AllByRecursion (λ u. text_cmp t u ≡ Less) (map key xs) → (u : Text) → bytes_eq t u ≡ true → list_any (λ x. bytes_eq (key x) u) xs ≡ false
  others_differ t [] h u e = refl
  others_differ t (x ∷ xs) h u e =
      let same : t ≡ u = eq_same t u e in
      let apart : bytes_eq (key x) u ≡ false = eq_turned (key x) u ∙ subst (λ v. bytes_eq v (key x) ≡ false) same (less_apart t (key x) h.0) in
      rw apart (others_differ t xs h.1 u e)

  pub find_none : (p : X → Bool) (xs : List X) → list_any p xs ≡ false → find p xs ≡ None
  find_none p [] h = refl
  find_none p (x ∷ xs) h =
      let cases : (b : Bool) → (b || list_any p xs) ≡ false → cond b (Some x) (find p xs) ≡ None = elim [ true ↦ (λ e. absurd cc) | false ↦ (λ e. find_none p xs e) ] in
      cases (p x) h

  pub filter_none : (p : X → Bool) (xs : List X) → list_any p xs ≡ false → filter (λ x. not (p x)) xs ≡ xs
  filter_none p [] h = refl
  filter_none p (x ∷ xs) h =
      let cases : (b : Bool) → (b || list_any p xs) ≡ false → cond (not b) (x ∷ filter (λ y. not (p y)) xs) (filter (λ y. not (p y)) xs) ≡ x ∷ xs = elim [ true ↦ (λ e. absurd cc) | false ↦ (λ e. ap (λ ys. x ∷ ys) (filter_none p xs e)) ] in
      cases (p x) h

  module _ (t : Text) where
    -- no item has the text
    pub none_at : (xs : List X) → ((k : ℕ) (d : X) → k < length xs → bytes_eq (key (get_or xs k d)) t ≡ false) → list_any (λ x. bytes_eq (key x) t) xs ≡ false
    none_at [] h = refl
    none_at (x ∷ xs) h = let first : bytes_eq (key x) t ≡ false = h 0 x (omega arith) in rw first (none_at xs (λ k d lt. h (suc k) d (omega arith)))

    lower_there : (x : X) (xs : List X) (i : ℕ) → IsRising (map key (x ∷ xs)) → i < length xs → ((d : X) → text_cmp (key (get_or xs i d)) t ≡ Equal) → bytes_eq (key x) t ≡ false
    lower_there x xs i rising lt tied =
        let same : key (get_or xs i x) ≡ t = eq_same (key (get_or xs i x)) t (tied_eq (key (get_or xs i x)) t (tied x)) in
        less_apart (key x) t (subst (λ u. text_cmp (key x) u ≡ Less) same (first_at (key x) xs i x (rising_first x xs rising) lt))

    -- the item that has the text is the one that is found
    pub found_at : (xs : List X) (i : ℕ) → IsRising (map key xs) → i < length xs → ((d : X) → text_cmp (key (get_or xs i d)) t ≡ Equal) → (d : X) → find (λ x. bytes_eq (key x) t) xs ≡ Some (get_or xs i d)
    found_at [] i rising lt tied d = absurd (omega arith)
    found_at (x ∷ xs) zero rising lt tied d = let e : bytes_eq (key x) t ≡ true = tied_eq (key x) t (tied x) in rw e refl
    found_at (x ∷ xs) (suc i) rising lt tied d =
        let e = lower_there x xs i rising (omega arith) tied in
        rw e (found_at xs i (rising_rest x xs rising) (omega arith) tied d)

    -- the others are those that differ
    pub removed_at : (xs : List X) (i : ℕ) → IsRising (map key xs) → i < length xs → ((d : X) → text_cmp (key (get_or xs i d)) t ≡ Equal) → remove xs i ≡ filter (λ x. not (bytes_eq (key x) t)) xs
    removed_at [] i rising lt tied = absurd (omega arith)
    removed_at (x ∷ xs) zero rising lt tied =
        let e : bytes_eq (key x) t ≡ true = tied_eq (key x) t (tied x) in
        rw e (sym (filter_none (λ y. bytes_eq (key y) t) xs (others_differ (key x) xs (rising_first x xs rising) t e)))
    removed_at (x ∷ xs) (suc i) rising lt tied =
        let e = lower_there x xs i rising (omega arith) tied in
        rw e (ap (λ ys. x ∷ ys) (removed_at xs i (rising_rest x xs rising) (omega arith) tied))

    unchanged : (f : X → X) (xs : List X) → list_any (λ x. bytes_eq (key x) t) xs ≡ false → map (λ x. cond (bytes_eq (key x) t) (f x) x) xs ≡ xs
    unchanged f [] h = refl
    unchanged f (x ∷ xs) h =
        let cases : (b : Bool) → (b || list_any (λ y. bytes_eq (key y) t) xs) ≡ false → cond b (f x) x ∷ map (λ y. cond (bytes_eq (key y) t) (f y) y) xs ≡ x ∷ xs = elim [ true ↦ (λ e. absurd cc) | false ↦ (λ e. ap (λ ys. x ∷ ys) (unchanged f xs e)) ] in
        cases (bytes_eq (key x) t) h

    -- nothing has the text, so nothing is changed
    pub none_changed : (f : X → X) (xs : List X) → list_any (λ x. bytes_eq (key x) t) xs ≡ false → map (λ x. cond (bytes_eq (key x) t) (f x) x) xs ≡ xs
    none_changed = unchanged

    -- a change of the item that has the text
    pub changed_at : (f : X → X) (xs : List X) (i : ℕ) → IsRising (map key xs) → i < length xs → ((d : X) → text_cmp (key (get_or xs i d)) t ≡ Equal) → (d : X) → set xs i (f (get_or xs i d)) ≡ map (λ x. cond (bytes_eq (key x) t) (f x) x) xs
    changed_at f [] i rising lt tied d = absurd (omega arith)
    changed_at f (x ∷ xs) zero rising lt tied d =
        let e : bytes_eq (key x) t ≡ true = tied_eq (key x) t (tied x) in
        rw e (ap (λ ys. f x ∷ ys) (sym (unchanged f xs (others_differ (key x) xs (rising_first x xs rising) t e))))
    changed_at f (x ∷ xs) (suc i) rising lt tied d =
        let e = lower_there x xs i rising (omega arith) tied in
        rw e (ap (λ ys. x ∷ ys) (changed_at f xs i (rising_rest x xs rising) (omega arith) tied d))

  -- an insert between what is lower and what is higher
  pub entered_at : (xs : List X) (i : ℕ) (y : X) → i ≤ length xs → ((k : ℕ) (d : X) → k < i → text_cmp (key (get_or xs k d)) (key y) ≡ Less) → ((k : ℕ) (d : X) → i ≤ k → k < length xs → text_cmp (key (get_or xs k d)) (key y) ≡ Greater) → insert xs i y ≡ entered key y xs
  entered_at [] zero y le low high = refl
  entered_at [] (suc i) y le low high = absurd (omega arith)
  entered_at (x ∷ xs) zero y le low high =
      let e : is_below (key x) (key y) ≡ false = ap is_lt (high 0 x (omega arith) (omega arith)) in rw e refl
  entered_at (x ∷ xs) (suc i) y le low high =
      let e : is_below (key x) (key y) ≡ true = ap is_lt (low 0 x (omega arith)) in
      rw e (ap (λ ys. x ∷ ys) (entered_at xs i y (omega arith) (λ k d lt. low (suc k) d (omega arith)) (λ k d from lt. high (suc k) d (omega arith) (omega arith))))

  pub all_entered : (P : X → Type 0) (y : X) (xs : List X) → P y → AllByRecursion P xs → AllByRecursion P (entered key y xs)
  all_entered P y [] one h = (one, tt)
  all_entered P y (x ∷ xs) one h =
      let cases : (b : Bool) → AllByRecursion P (cond b (x ∷ entered key y xs) (y ∷ x ∷ xs)) = elim [ true ↦ ((h.0, all_entered P y xs one h.1)) | false ↦ ((one, h)) ] in
      cases (is_below (key x) (key y))

  pub all_entered_of : {B : Type 0} (g : X → B) (P : B → Type 0) (y : X) (xs : List X) → P (g y) → AllByRecursion P (map g xs) → AllByRecursion P (map g (entered key y xs))
  all_entered_of g P y [] one h = (one, tt)
  all_entered_of g P y (x ∷ xs) one h =
      let cases : (b : Bool) → AllByRecursion P (map g (cond b (x ∷ entered key y xs) (y ∷ x ∷ xs))) = elim [ true ↦ ((h.0, all_entered_of g P y xs one h.1)) | false ↦ ((one, h)) ] in
      cases (is_below (key x) (key y))

  pub any_entered : (p : X → Bool) (y : X) (xs : List X) → list_any p (entered key y xs) ≡ (p y || list_any p xs)
  any_entered p y [] = refl
  any_entered p y (x ∷ xs) =
      let cases : (b : Bool) → list_any p (cond b (x ∷ entered key y xs) (y ∷ x ∷ xs)) ≡ (p y || (p x || list_any p xs)) =
      elim [ true ↦ (ap (λ r. p x || r) (any_entered p y xs) ∙ or_turned (p x) (p y) (list_any p xs)) | false ↦ refl ] in
      cases (is_below (key x) (key y))

  in_place : (y x : X) (xs : List X) → IsRising (map key (x ∷ xs)) → (list_any (λ z. bytes_eq (key z) (key y)) xs ≡ false → IsRising (map key (entered key y xs)))
      → (b : Bool) → is_below (key x) (key y) ≡ b → (e : Bool) → bytes_eq (key x) (key y) ≡ e → (e || list_any (λ z. bytes_eq (key z) (key y)) xs) ≡ false → IsRising (map key (cond b (x ∷ entered key y xs) (y ∷ x ∷ xs)))
  in_place y x xs rising rest b below true same new = absurd cc
  in_place y x xs rising rest true below false same new = rising_more x (entered key y xs) (all_entered_of key (λ t. text_cmp (key x) t ≡ Less) y xs (less_of (text_cmp (key x) (key y)) below) (rising_first x xs rising)) (rest new)
  in_place y x xs rising rest false below false same new =
      let less = other_way (key x) (key y) below same in
      rising_more y (x ∷ xs) (less, below_below (key y) (key x) (map key xs) less (rising_first x xs rising)) rising

  pub rising_entered : (y : X) (xs : List X) → IsRising (map key xs) → list_any (λ x. bytes_eq (key x) (key y)) xs ≡ false → IsRising (map key (entered key y xs))
  rising_entered y [] rising new = rising_more y [] tt rising_none
  rising_entered y (x ∷ xs) rising new = in_place y x xs rising (rising_entered y xs (rising_rest x xs rising)) (is_below (key x) (key y)) refl (bytes_eq (key x) (key y)) refl new

  pub all_filtered : (P : X → Type 0) (p : X → Bool) (xs : List X) → AllByRecursion P xs → AllByRecursion P (filter p xs)
  all_filtered P p [] h = tt
  all_filtered P p (x ∷ xs) h =
      let cases : (b : Bool) → AllByRecursion P (cond b (x ∷ filter p xs) (filter p xs)) = elim [ true ↦ ((h.0, all_filtered P p xs h.1)) | false ↦ (all_filtered P p xs h.1) ] in
      cases (p x)

  pub all_filtered_of : {B : Type 0} (g : X → B) (P : B → Type 0) (p : X → Bool) (xs : List X) → AllByRecursion P (map g xs) → AllByRecursion P (map g (filter p xs))
  all_filtered_of g P p [] h = tt
  all_filtered_of g P p (x ∷ xs) h =
      let cases : (b : Bool) → AllByRecursion P (map g (cond b (x ∷ filter p xs) (filter p xs))) = elim [ true ↦ ((h.0, all_filtered_of g P p xs h.1)) | false ↦ (all_filtered_of g P p xs h.1) ] in
      cases (p x)

  pub rising_filtered : (p : X → Bool) (xs : List X) → IsRising (map key xs) → IsRising (map key (filter p xs))
  rising_filtered p [] rising = rising
  rising_filtered p (x ∷ xs) rising =
      let cases : (b : Bool) → IsRising (map key (cond b (x ∷ filter p xs) (filter p xs))) = elim [ true ↦ (rising_more x (filter p xs) (all_filtered_of key (λ t. text_cmp (key x) t ≡ Less) p xs (rising_first x xs rising)) (rising_filtered p xs (rising_rest x xs rising))) | false ↦ (rising_filtered p xs (rising_rest x xs rising)) ] in
      cases (p x)

  -- numbers of the items that differ
  pub distinct_filtered : (g : X → ℕ) (p : X → Bool) (xs : List X) → IsDistinct nat_eq (map g xs) → IsDistinct nat_eq (map g (filter p xs))
  unfolding IsDistinct
  distinct_filtered g p [] h = tt
  distinct_filtered g p (x ∷ xs) h =
      let cases : (b : Bool) → IsDistinct nat_eq (map g (cond b (x ∷ filter p xs) (filter p xs))) = elim [ true ↦ ((all_filtered_of g (λ n. nat_eq (g x) n ≡ false) p xs h.0, distinct_filtered g p xs h.1)) | false ↦ (distinct_filtered g p xs h.1) ] in
      cases (p x)

  pub distinct_entered : (g : X → ℕ) (y : X) (xs : List X) → IsDistinct nat_eq (map g xs) → AllByRecursion (λ n. nat_eq (g y) n ≡ false) (map g xs) → AllByRecursion (λ n. nat_eq n (g y) ≡ false) (map g xs) → IsDistinct nat_eq (map g (entered key y xs))
  unfolding IsDistinct
  distinct_entered g y [] h new turned = (tt, tt)
  distinct_entered g y (x ∷ xs) h new turned =
      let cases : (b : Bool) → IsDistinct nat_eq (map g (cond b (x ∷ entered key y xs) (y ∷ x ∷ xs))) =
      elim [ true ↦ (all_entered_of g (λ n. nat_eq (g x) n ≡ false) y xs turned.0 h.0, distinct_entered g y xs h.1 new.1 turned.1) | false ↦ (new, h) ] in
      cases (is_below (key x) (key y))

  -- what a search by halving answers
  pub data Searched (t : Text) (xs : List X) : Result ℕ ℕ → Type 0 where
    at : (i : ℕ) → i < length xs → ((d : X) → text_cmp (key (get_or xs i d)) t ≡ Equal) → Searched t xs (Ok i)
    between : (i : ℕ) → i ≤ length xs → ((k : ℕ) (d : X) → k < i → text_cmp (key (get_or xs k d)) t ≡ Less) → ((k : ℕ) (d : X) → i ≤ k → k < length xs → text_cmp (key (get_or xs k d)) t ≡ Greater) → Searched t xs (Err i)

  pub searched : (t : Text) (xs : List X) (r : Result ℕ ℕ) → IsRising (map key xs) → IsSearchInRange r (length xs) → IsBinarySearchResult (λ y. text_cmp (key y) t) xs r → Searched t xs r
  searched t xs (Ok i) rising range result = at i range result
  searched t xs (Err i) rising range result =
      let point = result (searchable_from_sorted nat_list_cmp_total key xs t (sorted xs rising)) in
      between i range (λ k d lt. point.0 k d (omega arith) lt) (λ k d from lt. point.1 k d from lt)

  pub found : (t : Text) (xs : List X) (r : Result ℕ ℕ) → IsRising (map key xs) → Searched t xs r → IfOk r (λ i. (d : X) → find (λ x. bytes_eq (key x) t) xs ≡ Some (get_or xs i d))
  found t xs r rising (at i lt tied) = λ d. found_at t xs i rising lt tied d
  found t xs r rising (between i le low high) = tt

  pub others : (t : Text) (xs : List X) (r : Result ℕ ℕ) → IsRising (map key xs) → Searched t xs r → IfOk r (λ i. remove xs i ≡ filter (λ x. not (bytes_eq (key x) t)) xs)
  others t xs r rising (at i lt tied) = removed_at t xs i rising lt tied
  others t xs r rising (between i le low high) = tt

  pub absent : (t : Text) (xs : List X) (r : Result ℕ ℕ) → Searched t xs r → IfErr r (λ i. list_any (λ x. bytes_eq (key x) t) xs ≡ false)
  absent t xs r (at i lt tied) = tt
  absent t xs r (between i le low high) = none_at t xs (λ k d lt. ⊎_elim (λ below. less_apart _ t (low k d below)) (λ from. more_apart _ t (high k d from lt)) (cases_lt k i))

  pub place : (t : Text) (xs : List X) (r : Result ℕ ℕ) → Searched t xs r → IfErr r (λ i. (y : X) → key y ≡ t → insert xs i y ≡ entered key y xs)
  place t xs r (at i lt tied) = tt
  place t xs r (between i le low high) = λ y same. entered_at xs i y le (λ k d lt. subst (λ u. text_cmp (key (get_or xs k d)) u ≡ Less) (sym same) (low k d lt)) (λ k d from lt. subst (λ u. text_cmp (key (get_or xs k d)) u ≡ Greater) (sym same) (high k d from lt))

  pub changed : (t : Text) (xs : List X) (r : Result ℕ ℕ) → IsRising (map key xs) → Searched t xs r → IfOk r (λ i. (change : X → X) (d : X) → set xs i (change (get_or xs i d)) ≡ map (λ x. cond (bytes_eq (key x) t) (change x) x) xs)
  changed t xs r rising (at i lt tied) = λ change d. changed_at t change xs i rising lt tied d
  changed t xs r rising (between i le low high) = tt
