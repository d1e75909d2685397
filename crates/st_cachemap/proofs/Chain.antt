-- a walk along the places of a bucket
use Rattle.std.proofs.Common.{◌≡◌, ℕ, ◌<◌, true, List, [], ◌∷◌, length, cond, eqb, Option, Some, None, inl, inr, refl, sym, ◌∙◌, ap, subst, arith}
use Rattle.std.proofs.lemmas.Bool.{cases_eq, cases_Bool, eq-eqb, ne_eqb, cond-true, cond-false, false≢true, false_from_ne_true}
use Rattle.std.specs.Option.{MatchOption}
use Rattle.st_limits.specs.Cache.{has, AreDistinct}
use Rattle.st_limits.proofs.Members.{has_head, has_tail, has_cases, differ_by_list}
use Rattle.st_links.specs.Arena.{row, first_of, after, next_of, IsArena}
use Rattle.st_links.proofs.Neighbours.{next_of_at}

-- the places from p on
abbrev pub from_place : ℕ → List ℕ → List ℕ
from_place p [] = []
from_place p (x ∷ xs) = cond (eqb p x) (x ∷ xs) (from_place p xs)

-- what is left of a walk that stands there
abbrev pub left_of : Option ℕ → List ℕ → List ℕ
left_of None xs = []
left_of (Some p) xs = from_place p xs

pub left_of_first : (xs : List ℕ) → left_of (first_of xs) xs ≡ xs
left_of_first [] = refl
left_of_first (x ∷ xs) = cond-true (eqb x x) (x ∷ xs) (from_place x xs) (eq-eqb x x refl)

-- the place behind one stands in the list
pub after_in : (p q : ℕ) (xs : List ℕ) → after p xs ≡ Some q → has q xs ≡ true
after_in p q [] e = absurd (let bad : None ≡ Some q = e in cc)
after_in p q (x ∷ xs) e =
    elim (cases_Bool (eqb p x)) [
      | inl t ↦ first_in q x xs (sym (cond-true (eqb p x) (first_of xs) (after p xs) t) ∙ e)
      | inr f ↦ has_tail q x xs (after_in p q xs (sym (cond-false (eqb p x) (first_of xs) (after p xs) f) ∙ e))
    ]
  where
    first_in : (q x : ℕ) (xs : List ℕ) → first_of xs ≡ Some q → has q (x ∷ xs) ≡ true
    first_in q x [] e = absurd (let bad : None ≡ Some q = e in cc)
    first_in q x (y ∷ ys) e = let is : q ≡ y = (let same : Some y ≡ Some q = e in cc) in ap (λ (z : ℕ). has z (x ∷ y ∷ ys)) is ∙ has_tail y x (y ∷ ys) (has_head y ys)

-- one step: the place itself, and what is left behind it
pub from_step : (p : ℕ) (xs : List ℕ) → AreDistinct xs → has p xs ≡ true → from_place p xs ≡ p ∷ left_of (after p xs) xs
from_step p [] dist h = absurd (false≢true h)
from_step p (x ∷ xs) dist h =
    elim (cases_eq p x) [
      | inl e ↦
          cond-true (eqb p x) (x ∷ xs) (from_place p xs) (eq-eqb p x e)
          ∙ ap (λ (z : ℕ). z ∷ xs) (sym e)
          ∙ ap (λ (ys : List ℕ). p ∷ ys) (sym (ap (λ (o : Option ℕ). left_of o (x ∷ xs)) (cond-true (eqb p x) (first_of xs) (after p xs) (eq-eqb p x e)) ∙ behind x xs dist))
      | inr ne ↦
          let t : has p xs ≡ true = elim (has_cases p x xs h) [ inl q ↦ absurd (ne q) | inr t ↦ t ] in
          cond-false (eqb p x) (x ∷ xs) (from_place p xs) (ne_eqb p x ne)
          ∙ from_step p xs dist.1 t
          ∙ ap (λ (ys : List ℕ). p ∷ ys) (sym (ap (λ (o : Option ℕ). left_of o (x ∷ xs)) (cond-false (eqb p x) (first_of xs) (after p xs) (ne_eqb p x ne)) ∙ skip x xs dist (after p xs) (λ (q : ℕ) (e : after p xs ≡ Some q). after_in p q xs e)))
    ]
  where
    behind : (x : ℕ) (xs : List ℕ) → AreDistinct (x ∷ xs) → left_of (first_of xs) (x ∷ xs) ≡ xs
    behind x [] dist = refl
    behind x (y ∷ ys) dist =
        cond-false (eqb y x) (x ∷ y ∷ ys) (from_place y (y ∷ ys)) (ne_eqb y x (differ_by_list y x (y ∷ ys) (has_head y ys) dist.0))
        ∙ cond-true (eqb y y) (y ∷ ys) (from_place y ys) (eq-eqb y y refl)

    skip : (x : ℕ) (xs : List ℕ) → AreDistinct (x ∷ xs) → (o : Option ℕ) → ((q : ℕ) → o ≡ Some q → has q xs ≡ true) → left_of o (x ∷ xs) ≡ left_of o xs
    skip x xs dist None within = refl
    skip x xs dist (Some q) within = cond-false (eqb q x) (x ∷ xs) (from_place q xs) (ne_eqb q x (differ_by_list q x xs (within q refl) dist.0))

chain_here : (xs : List ℕ) → MatchOption (first_of xs) (Unit {0}) (λ p. has p xs ≡ true)
chain_here [] = tt
chain_here (x ∷ xs) = has_head x xs

-- where a walk begins
pub chain_first : (xs : List ℕ) (o : Option ℕ) → o ≡ first_of xs → MatchOption o (Unit {0}) (λ p. has p xs ≡ true) × ((q : ℕ) → has q xs ≡ true → has q (left_of o xs) ≡ true)
chain_first xs o e = (
  subst (λ (p : Option ℕ). MatchOption p (Unit {0}) (λ (k : ℕ). has k xs ≡ true)) (sym e) (chain_here xs),
  λ (q : ℕ) (h : has q xs ≡ true). ap (λ (p : Option ℕ). has q (left_of p xs)) e ∙ ap (has q) (left_of_first xs) ∙ h,
)

pub chain_behind : (p : ℕ) (xs : List ℕ) (o : Option ℕ) → o ≡ after p xs → MatchOption o (Unit {0}) (λ q. has q xs ≡ true)
chain_behind p xs None e = tt
chain_behind p xs (Some q) e = after_in p q xs (sym e)

-- what was left and is not the place itself is left behind it
pub chain_rest : (p q : ℕ) (xs : List ℕ) → AreDistinct xs → has p xs ≡ true → has q (from_place p xs) ≡ true → (q ≡ p → ⊥) → has q (left_of (after p xs) xs) ≡ true
chain_rest p q xs dist h there ne =
    elim (has_cases q p (left_of (after p xs) xs) (sym (ap (has q) (from_step p xs dist h)) ∙ there)) [ inl e ↦ absurd (ne e) | inr t ↦ t ]

pub chain_shorter : (p : ℕ) (xs : List ℕ) → AreDistinct xs → has p xs ≡ true → length (left_of (after p xs) xs) < length (from_place p xs)
chain_shorter p xs dist h = let long = ap (λ (ys : List ℕ). length ys) (from_step p xs dist h) in omega (arith, long)

-- in an arena a list's place has its neighbour in that list
pub next_in_row : (lists : List (List ℕ)) (n k p : ℕ) → IsArena lists n → k < length lists → has p (row lists k) ≡ true → next_of lists p ≡ after p (row lists k)
next_in_row lists n k p arena below h =
    next_of_at lists p k h
    (λ (i : ℕ) (less : i < k).
    false_from_ne_true (has p (row lists i))
    (λ (t : has p (row lists i) ≡ true). let same : i ≡ k = arena.apart i k p (omega arith) below t h in absurd (omega arith)))
