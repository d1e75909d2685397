-- What stands in a list.
use Rattle.std.proofs.Common.{◌≡◌, ◌⊎◌, inl, inr, ℕ, zero, suc, ◌<◌, Bool, true, false, ◌&&◌, List, [], ◌∷◌, length, map, get_or, refl, ap, ◌∙◌, arith}
use Rattle.std.specs.List.{All, AllPairs, list_all}

abbrev pub In : {X : Type 0} → X → List X → Type 0
In x [] = ⊥
In x (y ∷ ys) = (x ≡ y) ⊎ In x ys

both_true : (a b : Bool) → (a && b) ≡ true → (a ≡ true) × (b ≡ true)
both_true true b is = (refl, is)
both_true false b is = absurd (cc)

module _ {X : Type 0} where
  pub in_at : (xs : List X) (k : ℕ) (d : X) → k < length xs → In (get_or xs k d) xs
  in_at [] k d lt = absurd (omega arith)
  in_at (x ∷ xs) zero d lt = inl refl
  in_at (x ∷ xs) (suc k) d lt = inr (in_at xs k d (omega arith))

  pub passes : (p : X → Bool) (xs : List X) (x : X) → list_all p xs ≡ true → In x xs → p x ≡ true
  passes p [] x all is = absurd is
  passes p (y ∷ ys) x all is =
      let both = both_true (p y) (list_all p ys) all in
      elim is [
        | inl same ↦ ap p same ∙ both.0
        | inr more ↦ passes p ys x both.1 more
      ]

  pub all_of : (P : X → Type 0) (xs : List X) → ((x : X) → In x xs → P x) → All P xs
  all_of P xs each k d lt = each (get_or xs k d) (in_at xs k d lt)

  -- each stands before all later ones
  abbrev pub Sorted : (X → X → Bool) → List X → Type 0
  Sorted before [] = Unit {0}
  Sorted before (x ∷ xs) = ((y : X) → In y xs → before x y ≡ true) × Sorted before xs

  pub pairs_of : (before : X → X → Bool) (xs : List X) → Sorted before xs → AllPairs (λ x y. before x y ≡ true) xs
  pairs_of before [] sorted i j d lt less = absurd (omega arith)
  pairs_of before (x ∷ xs) sorted i zero d lt less = absurd (omega arith)
  pairs_of before (x ∷ xs) sorted zero (suc j) d lt less = sorted.0 (get_or xs j d) (in_at xs j d (omega arith))
  pairs_of before (x ∷ xs) sorted (suc i) (suc j) d lt less = pairs_of before xs sorted.1 i j d (omega arith) (omega arith)

-- what stands in a list of values is the value of an item
pub in_map : {X Y : Type 0} (f : X → Y) (xs : List X) (y : Y) → In y (map f xs) → (k : ℕ) × (k < length xs) × ((d : X) → y ≡ f (get_or xs k d))
in_map f [] y is = absurd is
in_map f (x ∷ xs) y (inl same) = (0, omega arith, λ d. same)
in_map f (x ∷ xs) y (inr more) = let rest = in_map f xs y more in (suc rest.0, omega (arith, rest.1), λ d. rest.2 d)

-- values of items in order are in order
pub sorted_map : {X Y : Type 0} (f : X → Y) (before : X → X → Bool) (after : Y → Y → Bool) (xs : List X) → AllPairs (λ x y. before x y ≡ true) xs
    → ((x y : X) → In x xs → In y xs → before x y ≡ true → after (f x) (f y) ≡ true) → Sorted after (map f xs)
sorted_map f before after [] pairs each = tt
sorted_map f before after (x ∷ xs) pairs each = (
  λ y is. (let at = in_map f xs y is in
      ap (after (f x)) (at.2 x) ∙ each x (get_or xs at.0 x) (inl refl) (inr (in_at xs at.0 x at.1)) (pairs 0 (suc at.0) x (omega arith) (omega (arith, at.1)))),
  sorted_map f before after xs (λ i j d lt less. pairs (suc i) (suc j) d (omega arith) (omega arith)) (λ u v a b. each u v (inr a) (inr b)),
)
