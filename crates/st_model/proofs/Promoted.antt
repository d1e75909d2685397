-- what the cache list keeps where a cell moves to the front
use Rattle.std.proofs.Common.{◌≡◌, ◌≢◌, ℕ, zero, suc, ◌+◌, ◌≤◌, not, List, [], ◌∷◌, length, take, Bool, true, false, cond, ◌⊎◌, inl, inr, refl, ap, subst, arith}
use Rattle.std.specs.Prelude.{nat_eq}
use Rattle.std.specs.List.{AllByRecursion}
use Rattle.std.proofs.lemmas.Bool.{cases_eq, eq-eqb}
use Rattle.st_limits.specs.Cache.{has, without, promoted, touched}
use Rattle.st_limits.proofs.Members.{has_cases, without_here, without_there}
use Rattle.st_model.specs.ValidPool.{EachPair}
use Rattle.st_model.proofs.Lists.{All-filter, All-weaker, EachPair-filter, filter-passes}
use Rattle.st_model.proofs.Totals.{fewer}

pub shorter : (c : ℕ) (xs : List ℕ) → has c xs ≡ true → length (without c xs) + 1 ≤ length xs
shorter c [] h = absurd cc
shorter c (x ∷ xs) h = here (cases_eq c x) (shorter c xs)
  where
    here : (c ≡ x) ⊎ (c ≡ x → ⊥) → (has c xs ≡ true → length (without c xs) + 1 ≤ length xs) → length (without c (x ∷ xs)) + 1 ≤ suc (length xs)
    here (inl e) rest =
        let less = fewer (λ y. not (nat_eq c y)) xs in
        let same : length (without c (x ∷ xs)) ≡ length (without c xs) = subst (λ (z : ℕ). length (without c (z ∷ xs)) ≡ length (without c xs)) e (ap length (without_here c xs)) in
        omega (arith, less, same)
    here (inr ne) rest =
        let less : length (without c xs) + 1 ≤ length xs = rest (elim (has_cases c x xs h) [ inl e ↦ absurd (ne e) | inr t ↦ t ]) in
        let same : length (without c (x ∷ xs)) ≡ suc (length (without c xs)) = ap length (without_there c x xs ne) in
        omega (arith, less, same)

differs : (c y : ℕ) → not (nat_eq c y) ≡ true → c ≢ y
differs c y h e = clash (nat_eq c y) h (eq-eqb c y e)
  where
    clash : (b : Bool) → not b ≡ true → b ≡ true → ⊥
    clash true h e = absurd cc
    clash false h e = absurd cc

pub first-distinct : (c : ℕ) (xs : List ℕ) → EachPair (λ (a b : ℕ). a ≢ b) xs → EachPair (λ (a b : ℕ). a ≢ b) (c ∷ without c xs)
first-distinct c xs h = (
  All-weaker _ _ (without c xs) (λ y n. differs c y n) (filter-passes (λ y. not (nat_eq c y)) xs),
  EachPair-filter (λ (a b : ℕ). a ≢ b) (λ y. not (nat_eq c y)) xs h,
)

pub promoted-distinct : (c : ℕ) (xs : List ℕ) → EachPair (λ (a b : ℕ). a ≢ b) xs → EachPair (λ (a b : ℕ). a ≢ b) (promoted c xs)
promoted-distinct c xs h = here (has c xs)
  where
    here : (b : Bool) → EachPair (λ (a b : ℕ). a ≢ b) (cond b (c ∷ without c xs) xs)
    here true = first-distinct c xs h
    here false = h

pub promoted-length : (c : ℕ) (xs : List ℕ) → length (promoted c xs) ≤ length xs
promoted-length c xs = here (has c xs) refl
  where
    here : (b : Bool) → has c xs ≡ b → length (cond b (c ∷ without c xs) xs) ≤ length xs
    here true e = let less = shorter c xs e in omega (arith, less)
    here false e = omega arith

pub promoted-all : (P : ℕ → Type 0) (c : ℕ) (xs : List ℕ) → P c → AllByRecursion P xs → AllByRecursion P (promoted c xs)
promoted-all P c xs g h = here (has c xs)
  where
    here : (b : Bool) → AllByRecursion P (cond b (c ∷ without c xs) xs)
    here true = (g, All-filter P (λ y. not (nat_eq c y)) xs h)
    here false = h

module _ {X : Type 0} where
  pub All-take : (P : X → Type 0) (n : ℕ) (xs : List X) → AllByRecursion P xs → AllByRecursion P (take n xs)
  All-take P zero xs h = tt
  All-take P (suc n) [] h = tt
  All-take P (suc n) (x ∷ xs) h = (h.0, All-take P n xs h.1)

  pub EachPair-take : (R : X → X → Type 0) (n : ℕ) (xs : List X) → EachPair R xs → EachPair R (take n xs)
  EachPair-take R zero xs h = tt
  EachPair-take R (suc n) [] h = tt
  EachPair-take R (suc n) (x ∷ xs) h = (All-take (R x) n xs h.0, EachPair-take R n xs h.1)

  pub take-most : (n : ℕ) (xs : List X) → length (take n xs) ≤ n
  take-most zero xs = omega arith
  take-most (suc n) [] = omega arith
  take-most (suc n) (x ∷ xs) = let rest = take-most n xs in omega (arith, rest)

pub touched-all : (P : ℕ → Type 0) (capacity c : ℕ) (xs : List ℕ) → P c → AllByRecursion P xs → AllByRecursion P (touched capacity c xs)
touched-all P capacity c xs g h = All-take P capacity (c ∷ without c xs) (g, All-filter P (λ y. not (nat_eq c y)) xs h)

pub touched-distinct : (capacity c : ℕ) (xs : List ℕ) → EachPair (λ (a b : ℕ). a ≢ b) xs → EachPair (λ (a b : ℕ). a ≢ b) (touched capacity c xs)
touched-distinct capacity c xs h = EachPair-take (λ (a b : ℕ). a ≢ b) capacity (c ∷ without c xs) (first-distinct c xs h)

pub touched-length : (capacity c : ℕ) (xs : List ℕ) → length (touched capacity c xs) ≤ capacity
touched-length capacity c xs = take-most capacity (c ∷ without c xs)
