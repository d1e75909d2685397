-- what is done to those that pass a test is done to one of them, where no two pass it
use Rattle.std.proofs.Common.{◌≡◌, ℕ, zero, suc, not, List, [], ◌∷◌, Bool, true, false, cond, map, filter, Some, slice_get, slice_set, remove, refl, ap, subst}
use Rattle.std.specs.List.{AllByRecursion}
use Rattle.st_model.specs.ValidPool.{EachPair}

module _ {X : Type 0} (R : X → X → Type 0) (test : X → Bool) (alone : (a b : X) → R a b → test a ≡ true → test b ≡ true → ⊥) where
  not_so : (b : Bool) → (b ≡ true → ⊥) → b ≡ false
  not_so true h = absurd (h refl)
  not_so false h = refl

  got : (x : X) (xs : List X) (i : ℕ) (y : X) → AllByRecursion (R x) xs → slice_get xs i ≡ Some y → R x y
  got x [] i y a h = absurd cc
  got x (z ∷ xs) zero y a h = let same : z ≡ y = cc in subst (R x) same a.0
  got x (z ∷ xs) (suc i) y a h = got x xs i y a.1 h

  none_pass : (x : X) (xs : List X) → test x ≡ true → AllByRecursion (R x) xs → AllByRecursion (λ y. test y ≡ false) xs
  none_pass x [] h a = tt
  none_pass x (y ∷ xs) h a = (not_so (test y) (alone x y a.0 h), none_pass x xs h a.1)

  map_none : (g : X → X) (xs : List X) → AllByRecursion (λ y. test y ≡ false) xs → map (λ y. cond (test y) (g y) y) xs ≡ xs
  map_none g [] a = refl
  map_none g (y ∷ xs) a = rw (a.0, map_none g xs a.1) refl

  keep_all : (xs : List X) → AllByRecursion (λ y. test y ≡ false) xs → filter (λ y. not (test y)) xs ≡ xs
  keep_all [] a = refl
  keep_all (y ∷ xs) a = rw (a.0, keep_all xs a.1) refl

  pub put_at : (g : X → X) (xs : List X) (i : ℕ) (x : X) → EachPair R xs → slice_get xs i ≡ Some x → test x ≡ true → map (λ y. cond (test y) (g y) y) xs ≡ slice_set xs i (g x)
  put_at g [] i x a h t = absurd cc
  put_at g (y ∷ xs) zero x a h t =
      let same : y ≡ x = cc in
      let mine : test y ≡ true = rw same t in
      rw (mine, map_none g xs (none_pass y xs mine a.0)) (ap (λ z. g z ∷ xs) same)
  put_at g (y ∷ xs) (suc i) x a h t =
      let off : test y ≡ false = not_so (test y) (λ u. alone y x (got y xs i x a.0 h) u t) in
      rw (off, put_at g xs i x a.1 h t) refl

  pub drop_at : (xs : List X) (i : ℕ) (x : X) → EachPair R xs → slice_get xs i ≡ Some x → test x ≡ true → filter (λ y. not (test y)) xs ≡ remove xs i
  drop_at [] i x a h t = absurd cc
  drop_at (y ∷ xs) zero x a h t =
      let same : y ≡ x = cc in
      let mine : test y ≡ true = rw same t in
      rw (mine, keep_all xs (none_pass y xs mine a.0)) refl
  drop_at (y ∷ xs) (suc i) x a h t =
      let off : test y ≡ false = not_so (test y) (λ u. alone y x (got y xs i x a.0 h) u t) in
      rw (off, drop_at xs i x a.1 h t) refl

-- putting an item where it stands
pub put_back : {X : Type 0} (xs : List X) (i : ℕ) (x : X) → slice_get xs i ≡ Some x → slice_set xs i x ≡ xs
put_back [] i x h = absurd cc
put_back (y ∷ xs) zero x h = let same : y ≡ x = cc in rw same refl
put_back (y ∷ xs) (suc i) x h = ap (λ t. y ∷ t) (put_back xs i x h)
