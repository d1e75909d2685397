-- Sums over the members of a list, and lists of which one member is set.
use Rattle.std.proofs.Common.{ℕ, zero, suc, ◌≡◌, ◌≢◌, ◌+◌, ◌<◌, ◌≤◌, ◌==◌, ◌⊎◌, inl, inr, Bool, true, false, List, [], ◌∷◌, ◌++◌, map, length, set, refl, ap, sym, ◌∙◌, arith}
use Rattle.std.proofs.lemmas.Bool.Decides.{nat_tests}
use Rattle.std.specs.Prelude.{nat_lt}
use mathlib.Core.Option.{some, some-ne-none, some-injective}
use mathlib.Core.List.{IsPrefix}
use lib.ListN.{get_elem?}
use Rattle.std.proofs.Common.{length-append}
use Rattle.std.proofs.lemmas.List.{append-nil}
use Rattle.std.specs.Prelude.{if◌then◌else◌}
use Rattle.st_turn.specs.Lists.{one_if, times, total, longer}

module _ {A : Type 0} where
  pub inside : (l : List A) (i : ℕ) (a : A) → get_elem? l i ≡ some a → i < length l
  inside [] i a e = absurd (some-ne-none a (sym e))
  inside (x ∷ xs) zero a e = omega arith
  inside (x ∷ xs) (suc i) a e = let h = inside xs i a e in omega arith

  pub total_set : (f : A → ℕ) (l : List A) (i : ℕ) (v w : A) → get_elem? l i ≡ some v → total f (set l i w) + f v ≡ total f l + f w
  total_set f [] i v w e = absurd (some-ne-none v (sym e))
  total_set f (x ∷ xs) zero v w e = let same : f x ≡ f v = ap f (some-injective x v e) in omega (arith, same)
  total_set f (x ∷ xs) (suc i) v w e = let h : total f (set xs i w) + f v ≡ total f xs + f w = total_set f xs i v w e in omega (arith, h)

  pub total_snoc : (f : A → ℕ) (l : List A) (w : A) → total f (l ++ w ∷ []) ≡ total f l + f w
  total_snoc f [] w = omega arith
  total_snoc f (x ∷ xs) w = let h : total f (xs ++ w ∷ []) ≡ total f xs + f w = total_snoc f xs w in omega (arith, h)

  pub total_one : (f : A → ℕ) (l : List A) (i : ℕ) (v : A) → get_elem? l i ≡ some v → f v ≤ total f l
  total_one f [] i v e = absurd (some-ne-none v (sym e))
  total_one f (x ∷ xs) zero v e = let same : f x ≡ f v = ap f (some-injective x v e) in omega (arith, same)
  total_one f (x ∷ xs) (suc i) v e = let h : f v ≤ total f xs = total_one f xs i v e in omega (arith, h)

  pub total_two : (f : A → ℕ) (l : List A) (i j : ℕ) (v w : A) → i ≢ j → get_elem? l i ≡ some v → get_elem? l j ≡ some w → f v + f w ≤ total f l
  total_two f [] i j v w ne e d = absurd (some-ne-none v (sym e))
  total_two f (x ∷ xs) zero zero v w ne e d = absurd (ne refl)
  total_two f (x ∷ xs) zero (suc j) v w ne e d = let same : f x ≡ f v = ap f (some-injective x v e) in let h : f w ≤ total f xs = total_one f xs j w d in omega (arith, same, h)
  total_two f (x ∷ xs) (suc i) zero v w ne e d = let same : f x ≡ f w = ap f (some-injective x w d) in let h : f v ≤ total f xs = total_one f xs i v e in omega (arith, same, h)
  total_two f (x ∷ xs) (suc i) (suc j) v w ne e d = let h : f v + f w ≤ total f xs = total_two f xs i j v w (λ s. ne (ap suc s)) e d in omega (arith, h)

  pub total_zero : (f : A → ℕ) (l : List A) → ((j : ℕ) (w : A) → get_elem? l j ≡ some w → f w ≡ 0) → total f l ≡ 0
  total_zero f [] h = refl
  total_zero f (x ∷ xs) h = let a : f x ≡ 0 = h zero x refl in let b : total f xs ≡ 0 = total_zero f xs (λ j w e. h (suc j) w e) in omega (arith, a, b)

  pub total_alone : (f : A → ℕ) (l : List A) (i : ℕ) (v : A) → get_elem? l i ≡ some v → ((j : ℕ) (w : A) → get_elem? l j ≡ some w → j ≢ i → f w ≡ 0) → total f l ≡ f v
  total_alone f [] i v e h = absurd (some-ne-none v (sym e))
  total_alone f (x ∷ xs) zero v e h = let same : f x ≡ f v = ap f (some-injective x v e) in let b : total f xs ≡ 0 = total_zero f xs (λ j w d. h (suc j) w d (λ s. omega arith)) in omega (arith, same, b)
  total_alone f (x ∷ xs) (suc i) v e h =
      let a : f x ≡ 0 = h zero x refl (λ s. omega arith) in
      let b : total f xs ≡ f v = total_alone f xs i v e (λ j w d ne. h (suc j) w d (λ s. ne (omega arith))) in
      omega (arith, a, b)

  pub prefix_cases : (a b l : List A) → IsPrefix a l → IsPrefix b l → IsPrefix a b ⊎ IsPrefix b a
  prefix_cases [] b l p q = inl (b, refl)
  prefix_cases (x ∷ xs) [] l p q = inr (x ∷ xs, refl)
  prefix_cases (x ∷ xs) (y ∷ ys) [] p q = absurd (let e : x ∷ (xs ++ p.0) ≡ [] = p.1 in cc)
  prefix_cases (x ∷ xs) (y ∷ ys) (z ∷ zs) p q =
      let a : x ∷ (xs ++ p.0) ≡ z ∷ zs = p.1 in
      let b : y ∷ (ys ++ q.0) ≡ z ∷ zs = q.1 in
      let h : x ≡ y = cc in
      let p' : xs ++ p.0 ≡ zs = cc in
      let q' : ys ++ q.0 ≡ zs = cc in
      elim (prefix_cases xs ys zs (p.0, p') (q.0, q')) [
        | inl r ↦ inl (r.0, let e : xs ++ r.0 ≡ ys = r.1 in let go : x ∷ (xs ++ r.0) ≡ y ∷ ys = cc in go)
        | inr r ↦ inr (r.0, let e : ys ++ r.0 ≡ xs = r.1 in let go : y ∷ (ys ++ r.0) ≡ x ∷ xs = cc in go)
      ]

  prefix_length : (a b : List A) → IsPrefix a b → length a ≤ length b
  prefix_length a b p = let e : length (a ++ p.0) ≡ length b = ap (length {A = A}) p.1 in let s : length (a ++ p.0) ≡ length a + length p.0 = length-append a p.0 in omega (arith, e, s)

  prefix_whole : (a b : List A) → IsPrefix a b → length b ≤ length a → IsPrefix b a
  prefix_whole a b p short =
      let e : length (a ++ p.0) ≡ length b = ap (length {A = A}) p.1 in
      let s : length (a ++ p.0) ≡ length a + length p.0 = length-append a p.0 in
      let go : (r : List A) → a ++ r ≡ b → length r ≡ 0 → IsPrefix b a = elim [
        | [] ↦ (λ q z. ([], append-nil b ∙ (sym q ∙ append-nil a)))
        | x ∷ xs ↦ (λ q z. absurd (omega (arith, z)))
      ] in
      go p.0 p.1 (omega (arith, e, s, short))

  -- of two beginnings of a list, the longer begins with both
  pub longer_prefix : (a b l : List A) → IsPrefix a l → IsPrefix b l → IsPrefix a (longer a b) × IsPrefix b (longer a b) × IsPrefix (longer a b) l
  longer_prefix a b l p q =
      let whole : (c : List A) → IsPrefix c c = λ c. ([], append-nil c) in
      let go : (t : Bool) → nat_lt (length a) (length b) ≡ t → let z : List A = if t then b else a in IsPrefix a z × IsPrefix b z × IsPrefix z l = elim [
        | true ↦ (λ e. (elim (prefix_cases a b l p q) [ inl r ↦ r | inr r ↦ absurd (let s = prefix_length b a r in grind (arith, nat_tests)) ], whole b, q))
        | false ↦ (λ e. (whole a, elim (prefix_cases a b l p q) [ inl r ↦ prefix_whole a b r (grind (arith, nat_tests)) | inr r ↦ r ], p))
      ] in
      go (nat_lt (length a) (length b)) refl

module _ {A B : Type 0} where
  pub map_set_same : (f : A → B) (l : List A) (i : ℕ) (v w : A) → get_elem? l i ≡ some v → f w ≡ f v → map f (set l i w) ≡ map f l
  map_set_same f [] i v w e same = refl
  map_set_same f (x ∷ xs) zero v w e same = let h : f w ≡ f x = same ∙ ap f (sym (some-injective x v e)) in λ k. h k ∷ map f xs
  map_set_same f (x ∷ xs) (suc i) v w e same = λ k. f x ∷ map_set_same f xs i v w e same k

  pub map_set : (f : A → B) (l : List A) (i : ℕ) (w : A) → map f (set l i w) ≡ set (map f l) i (f w)
  map_set f [] i w = refl
  map_set f (x ∷ xs) zero w = refl
  map_set f (x ∷ xs) (suc i) w = λ k. f x ∷ map_set f xs i w k

  pub map_snoc : (f : A → B) (l : List A) (w : A) → map f (l ++ w ∷ []) ≡ map f l ++ f w ∷ []
  map_snoc f [] w = refl
  map_snoc f (x ∷ xs) w = λ k. f x ∷ map_snoc f xs w k

  pub map_joins : (f : A → B) (l m : List A) → map f (l ++ m) ≡ map f l ++ map f m
  map_joins f [] m = refl
  map_joins f (x ∷ xs) m = λ k. f x ∷ map_joins f xs m k

  pub unmap : (f : A → B) (l : List A) (i : ℕ) (b : B) → get_elem? (map f l) i ≡ some b → (a : A) × (get_elem? l i ≡ some a) × (f a ≡ b)
  unmap f [] i b e = absurd (some-ne-none b (sym e))
  unmap f (x ∷ xs) zero b e = (x, refl, some-injective (f x) b e)
  unmap f (x ∷ xs) (suc i) b e = unmap f xs i b e

pub times_append : (x : ℕ) (a b : List ℕ) → times x (a ++ b) ≡ times x a + times x b
times_append x [] b = omega arith
times_append x (y ∷ ys) b = let h : times x (ys ++ b) ≡ times x ys + times x b = times_append x ys b in omega (arith, h)

pub below_more : (x n : ℕ) → one_if (nat_lt x n) + one_if (x == n) ≡ one_if (nat_lt x (n + 1))
below_more x n =
    let cases : (a b c : Bool) → nat_lt x n ≡ a → (x == n) ≡ b → nat_lt x (n + 1) ≡ c → one_if a + one_if b ≡ one_if c = elim [
      | true ↦ elim [ true ↦ (λ c p q r. absurd (grind (arith, nat_tests))) | false ↦ elim [ true ↦ (λ p q r. refl) | false ↦ (λ p q r. absurd (grind (arith, nat_tests))) ] ]
      | false ↦ elim [ true ↦ elim [ true ↦ (λ p q r. refl) | false ↦ (λ p q r. absurd (grind (arith, nat_tests))) ] | false ↦ elim [ true ↦ (λ p q r. absurd (grind (arith, nat_tests))) | false ↦ (λ p q r. refl) ] ]
    ] in
    cases (nat_lt x n) (x == n) (nat_lt x (n + 1)) refl refl refl

pub one_if_most : (b : Bool) → one_if b ≤ 1
one_if_most true = omega arith
one_if_most false = omega arith

pub once_itself : (x : ℕ) → one_if (x == x) ≡ 1
once_itself x = let e : (x == x) ≡ true = grind (arith, nat_tests) in ap one_if e

pub below_of : (x n : ℕ) → 0 < one_if (nat_lt x n) → x < n
below_of x n =
    let cases : (a : Bool) → nat_lt x n ≡ a → 0 < one_if a → x < n = elim [ true ↦ (λ p h. grind (arith, nat_tests)) | false ↦ (λ p h. absurd (omega arith)) ] in
    cases (nat_lt x n) refl
