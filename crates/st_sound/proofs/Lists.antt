-- tests and lists
use Rattle.std.proofs.Common.{◌≡◌, ◌≢◌, ◌⊎◌, inl, inr, ℕ, suc, zero, ◌<◌, ◌≤◌, List, [], ◌∷◌, Bool, true, false, not, eqb, ◌||◌, length, map, take, Some, refl, ap, ◌∙◌, arith}
use Rattle.std.specs.Prelude.{slice_get, nat_eq, nat_le, nat_lt, ◌==◌}
use Rattle.std.specs.List.{AllByRecursion, IsDistinct, list_any, slice_index_or}
use Rattle.std.proofs.lemmas.Bool.{cases_Bool}
use Rattle.std.proofs.lemmas.Bool.Decides.{nat_tests}
use Rattle.std.proofs.lemmas.Map.Steps.{length-le_from_distinct_below}
use Rattle.st_model.specs.ValidPool.{EachPair}
use Rattle.st_flexsound.proofs.Lists.{All-at, All-both}
use Rattle.st_parting.proofs.Newest.{some_same, none_some}

pub le_of : (a b : ℕ) → nat_le a b ≡ true → a ≤ b
le_of a b e = grind (arith, nat_tests)

pub lt_of : (a b : ℕ) → nat_lt a b ≡ true → a < b
lt_of a b e = grind (arith, nat_tests)

pub not_lt : (a b : ℕ) → nat_lt a b ≡ false → b ≤ a
not_lt a b e = grind (arith, nat_tests)

pub eq_of : (a b : ℕ) → (a == b) ≡ true → a ≡ b
eq_of a b e = grind (arith, nat_tests)

pub not_eq : (a b : ℕ) → nat_eq a b ≡ false → a ≢ b
not_eq a b e same = grind (arith, nat_tests)

pub eq_true : (a b : ℕ) → a ≡ b → nat_eq a b ≡ true
eq_true a b e = grind (arith, nat_tests)

pub ne_false : (a b : ℕ) → a ≢ b → nat_eq a b ≡ false
ne_false a b ne = elim (cases_Bool (nat_eq a b)) [
  | inl holds ↦ absurd (ne (eq_of a b holds))
  | inr fails ↦ fails
]

pub not_both : (b : Bool) → b ≡ true → b ≡ false → ⊥
not_both b t f = cc

pub or_true : (a b : Bool) → (a || b) ≡ true → (a ≡ true) ⊎ (b ≡ true)
or_true true b e = inl refl
or_true false b e = inr e

pub or_second : (a b : Bool) → b ≡ true → (a || b) ≡ true
or_second true b e = refl
or_second false b e = e

pub not_true : (b : Bool) → not b ≡ true → b ≡ false
not_true true e = absurd cc
not_true false e = refl

pub least_false : (b : Bool) → (b ≡ true → ⊥) → b ≡ false
least_false true never = absurd (never refl)
least_false false never = refl

module _ {X : Type 0} where
  pub pairs-both : (R S : X → X → Type 0) (xs : List X) → EachPair R xs → EachPair S xs → EachPair (λ a b. R a b × S a b) xs
  pairs-both R S [] h g = tt
  pairs-both R S (x ∷ xs) h g = (All-both (R x) (S x) xs h.0 g.0, pairs-both R S xs h.1 g.1)

  -- one of the items passes
  pub any_found : (p : X → Bool) (xs : List X) → list_any p xs ≡ true → (k : ℕ) × (x : X) × (slice_get xs k ≡ Some x) × (p x ≡ true)
  any_found p [] e = absurd cc
  any_found p (x ∷ xs) e = elim (or_true (p x) (list_any p xs) e) [
    | inl here ↦ (0, x, refl, here)
    | inr later ↦ let rest = any_found p xs later in (suc rest.0, rest.1, rest.2, rest.3)
  ]

  pub found_any : (p : X → Bool) (xs : List X) (k : ℕ) (x : X) → slice_get xs k ≡ Some x → p x ≡ true → list_any p xs ≡ true
  found_any p [] k x at e = absurd (none_some x at)
  found_any p (y ∷ ys) zero x at e = ap (λ (b : Bool). b || list_any p ys) (ap p (some_same y x at) ∙ e)
  found_any p (y ∷ ys) (suc k) x at e = or_second (p y) (list_any p ys) (found_any p ys k x at e)

  pub any_before : (p : X → Bool) (i : ℕ) (xs : List X) → list_any p (take i xs) ≡ true → (k : ℕ) × (x : X) × (k < i) × (slice_get xs k ≡ Some x) × (p x ≡ true)
  any_before p zero xs e = absurd cc
  any_before p (suc i) [] e = absurd cc
  any_before p (suc i) (x ∷ xs) e = elim (or_true (p x) (list_any p (take i xs)) e) [
    | inl here ↦ (0, x, omega arith, refl, here)
    | inr later ↦ let rest = any_before p i xs later in (suc rest.0, rest.1, omega (arith, rest.2), rest.3, rest.4)
  ]

  pub at_index : (xs : List X) (i : ℕ) (x : X) → slice_get xs i ≡ Some x → (i < length xs) × (slice_index_or xs i x ≡ x)
  at_index [] i x at = absurd (none_some x at)
  at_index (y ∷ ys) zero x at = (omega arith, some_same y x at)
  at_index (y ∷ ys) (suc i) x at = let rest = at_index ys i x at in (omega (arith, rest.0), rest.1)

module _ {X Y : Type 0} where
  pub any-map : (p : Y → Bool) (f : X → Y) (xs : List X) → list_any p (map f xs) ≡ list_any (λ (x : X). p (f x)) xs
  any-map p f [] = refl
  any-map p f (x ∷ xs) = ap (λ (b : Bool). p (f x) || b) (any-map p f xs)

distinct_of : (xs : List ℕ) → EachPair (λ (a b : ℕ). a ≢ b) xs → IsDistinct eqb xs
unfolding IsDistinct
distinct_of [] h = tt
distinct_of (x ∷ xs) h = (others xs h.0, distinct_of xs h.1)
  where
    others : (ys : List ℕ) → AllByRecursion (λ (y : ℕ). x ≢ y) ys → AllByRecursion (λ (y : ℕ). eqb x y ≡ false) ys
    others [] g = tt
    others (y ∷ ys) g = (ne_false x y g.0, others ys g.1)

-- so many distinct numbers below n are no more than n
pub few_below : (xs : List ℕ) (n : ℕ) → EachPair (λ (a b : ℕ). a ≢ b) xs → AllByRecursion (λ (x : ℕ). x < n) xs → length xs ≤ n
few_below xs n differ below = length-le_from_distinct_below xs n (distinct_of xs differ) (λ q e. (let one = any_found (eqb q) xs e in let same = eq_of q one.1 one.3 in let low : one.1 < n = All-at (λ (x : ℕ). x < n) xs one.0 one.1 below one.2 in omega (arith, same, low)))
