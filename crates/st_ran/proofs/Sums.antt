-- sums over a list with one taken out and one put last
use Rattle.std.proofs.Common.{◌≡◌, ℕ, suc, zero, ◌+◌, List, [], ◌∷◌, ◌++◌, map, remove, Some, refl, ap, subst, arith}
use Rattle.std.specs.Prelude.{slice_get}
use Rattle.std.specs.List.{AllByRecursion, sum_by}
use Rattle.std.proofs.lemmas.List.Sums.{sum_by-cons}

module _ {X : Type 0} where
  pub sum_taken : (f : X → ℕ) (xs : List X) (i : ℕ) (x : X) → slice_get xs i ≡ Some x → sum_by f (remove xs i) + f x ≡ sum_by f xs
  sum_taken f [] zero x e = absurd cc
  sum_taken f [] (suc i) x e = absurd cc
  sum_taken f (y ∷ ys) zero x e =
      let same : y ≡ x = cc in
      let all = sum_by-cons f y ys in
      let one = ap f same in
      omega (arith, all, one)
  sum_taken f (y ∷ ys) (suc i) x e =
      let rest = sum_taken f ys i x e in
      let all = sum_by-cons f y ys in
      let left = sum_by-cons f y (remove ys i) in
      omega (arith, rest, all, left)

  pub sum_last : (f : X → ℕ) (xs : List X) (x : X) → sum_by f (xs ++ x ∷ []) ≡ sum_by f xs + f x
  sum_last f [] x = let all = sum_by-cons f x [] in omega (arith, all)
  sum_last f (y ∷ ys) x =
      let rest = sum_last f ys x in
      let all = sum_by-cons f y ys in
      let more = sum_by-cons f y (ys ++ x ∷ []) in
      omega (arith, rest, all, more)

  pub All-taken : (P : X → Type 0) (xs : List X) (i : ℕ) → AllByRecursion P xs → AllByRecursion P (remove xs i)
  All-taken P [] zero h = h
  All-taken P [] (suc i) h = h
  All-taken P (y ∷ ys) zero h = h.1
  All-taken P (y ∷ ys) (suc i) h = (h.0, All-taken P ys i h.1)

  pub All-last : (P : X → Type 0) (xs : List X) (x : X) → AllByRecursion P xs → P x → AllByRecursion P (xs ++ x ∷ [])
  All-last P [] x h p = (p, tt)
  All-last P (y ∷ ys) x h p = (h.0, All-last P ys x h.1 p)

  pub All-from : (P : X → Type 0) (xs : List X) → ((k : ℕ) (x : X) → slice_get xs k ≡ Some x → P x) → AllByRecursion P xs
  All-from P [] f = tt
  All-from P (x ∷ xs) f = (f 0 x refl, All-from P xs (λ k y e. f (suc k) y e))

  pub All-at : (P : X → Type 0) (xs : List X) (k : ℕ) (x : X) → AllByRecursion P xs → slice_get xs k ≡ Some x → P x
  All-at P [] zero x h e = absurd cc
  All-at P [] (suc k) x h e = absurd cc
  All-at P (y ∷ ys) zero x h e = let same : y ≡ x = cc in subst P same h.0
  All-at P (y ∷ ys) (suc k) x h e = All-at P ys k x h.1 e

module _ {X Y : Type 0} where
  pub map-taken : (f : X → Y) (xs : List X) (i : ℕ) → map f (remove xs i) ≡ remove (map f xs) i
  map-taken f [] zero = refl
  map-taken f [] (suc i) = refl
  map-taken f (y ∷ ys) zero = refl
  map-taken f (y ∷ ys) (suc i) = ap (λ (t : List Y). f y ∷ t) (map-taken f ys i)
