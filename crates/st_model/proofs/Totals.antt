-- sums over lists, item by item
use Rattle.std.proofs.Common.{◌≡◌, ℕ, suc, ◌+◌, ◌≤◌, List, [], ◌∷◌, length, Bool, true, false, cond, filter, map, refl, ap, ◌∙◌, arith}
use Rattle.std.specs.List.{AllByRecursion, sum_by}
use Rattle.std.proofs.lemmas.List.Sums.{sum_by-cons}

module _ {X : Type 0} where
  abbrev pub total : (X → ℕ) → List X → ℕ
  total f [] = 0
  total f (x ∷ xs) = f x + total f xs

  pub total-is : (f : X → ℕ) (xs : List X) → sum_by f xs ≡ total f xs
  total-is f [] = refl
  total-is f (x ∷ xs) = sum_by-cons f x xs ∙ ap (λ n. f x + n) (total-is f xs)

  pub total-most : (f g : X → ℕ) (xs : List X) → AllByRecursion (λ x. f x ≤ g x) xs → total f xs ≤ total g xs
  total-most f g [] h = omega arith
  total-most f g (x ∷ xs) h = let rest = total-most f g xs h.1 in let first : f x ≤ g x = h.0 in omega (arith, first, rest)

  pub total-both : (f g : X → ℕ) (xs : List X) → total (λ x. f x + g x) xs ≡ total f xs + total g xs
  total-both f g [] = refl
  total-both f g (x ∷ xs) = let rest = total-both f g xs in omega (arith, rest)

  pub total-none : (f : X → ℕ) (xs : List X) → AllByRecursion (λ x. f x ≡ 0) xs → total f xs ≡ 0
  total-none f [] h = refl
  total-none f (x ∷ xs) h = let rest = total-none f xs h.1 in let first : f x ≡ 0 = h.0 in omega (arith, first, rest)

  -- what a test passes, and what it doesn't
  pub total-split : (f : X → ℕ) (p : X → Bool) (xs : List X) → total f (filter p xs) + total (λ x. cond (p x) 0 (f x)) xs ≡ total f xs
  total-split f p [] = refl
  total-split f p (x ∷ xs) = here (p x) (total-split f p xs)
    where
      here : (b : Bool) → total f (filter p xs) + total (λ y. cond (p y) 0 (f y)) xs ≡ total f xs
          → total f (cond b (x ∷ filter p xs) (filter p xs)) + (cond b 0 (f x) + total (λ y. cond (p y) 0 (f y)) xs) ≡ f x + total f xs
      here true h = omega (arith, h)
      here false h = omega (arith, h)

  pub fewer : (p : X → Bool) (xs : List X) → length (filter p xs) ≤ length xs
  fewer p [] = omega arith
  fewer p (x ∷ xs) = here (p x) (filter p xs) (fewer p xs)
    where
      here : (b : Bool) (ys : List X) → length ys ≤ length xs → length (cond b (x ∷ ys) ys) ≤ suc (length xs)
      here true ys h = omega (arith, h)
      here false ys h = omega (arith, h)

module _ {X Y : Type 0} where
  pub total-map : (f : Y → ℕ) (g : X → Y) (xs : List X) → total f (map g xs) ≡ total (λ x. f (g x)) xs
  total-map f g [] = refl
  total-map f g (x ∷ xs) = ap (λ n. f (g x) + n) (total-map f g xs)
