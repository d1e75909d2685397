-- what stands at a place of two lists joined
use Rattle.std.proofs.Common.{◌≡◌, ℕ, zero, suc, ◌+◌, ◌⊎◌, inl, inr, List, [], ◌∷◌, ◌++◌, length, Some, None, Bool, true, false, cond, refl, ap, arith}
use Rattle.std.specs.Prelude.{slice_get, find}

module _ {X : Type 0} where
  -- it stands in the first list, or so far in the second one
  pub at_append : (xs ys : List X) (i : ℕ) (x : X) → slice_get (xs ++ ys) i ≡ Some x → (slice_get xs i ≡ Some x) ⊎ ((j : ℕ) × (i ≡ length xs + j) × (slice_get ys j ≡ Some x))
  at_append [] ys i x h = inr (i, omega arith, h)
  at_append (y ∷ xs) ys zero x h = inl h
  at_append (y ∷ xs) ys (suc i) x h = shift (at_append xs ys i x h)
    where
      shift : (slice_get xs i ≡ Some x) ⊎ ((j : ℕ) × (i ≡ length xs + j) × (slice_get ys j ≡ Some x)) → (slice_get xs i ≡ Some x) ⊎ ((j : ℕ) × (suc i ≡ suc (length xs) + j) × (slice_get ys j ≡ Some x))
      shift (inl g) = inl g
      shift (inr g) = inr (g.0, omega (arith, g.1), g.2)

  pub at_front : (xs ys : List X) (i : ℕ) (x : X) → slice_get xs i ≡ Some x → slice_get (xs ++ ys) i ≡ Some x
  at_front [] ys i x h = absurd cc
  at_front (y ∷ xs) ys zero x h = h
  at_front (y ∷ xs) ys (suc i) x h = at_front xs ys i x h

  pub at_back : (xs ys : List X) (i j : ℕ) → i ≡ length xs + j → slice_get (xs ++ ys) i ≡ slice_get ys j
  at_back [] ys i j e = let same : i ≡ j = omega (arith, e) in ap (slice_get ys) same
  at_back (y ∷ xs) ys zero j e = let no_place : zero ≡ suc (length xs) + j = e in absurd (omega (arith, no_place))
  at_back (y ∷ xs) ys (suc i) j e = at_back xs ys i j (omega (arith, e))

  pub found_first : (p : X → Bool) (xs ys : List X) (x : X) → find p xs ≡ Some x → find p (xs ++ ys) ≡ Some x
  found_first p [] ys x h = absurd cc
  found_first p (y ∷ xs) ys x h = here (p y) h (found_first p xs ys x)
    where
      here : (b : Bool) → cond b (Some y) (find p xs) ≡ Some x → (find p xs ≡ Some x → find p (xs ++ ys) ≡ Some x) → cond b (Some y) (find p (xs ++ ys)) ≡ Some x
      here true g f = g
      here false g f = f g

  pub found_later : (p : X → Bool) (xs ys : List X) → find p xs ≡ None → find p (xs ++ ys) ≡ find p ys
  found_later p [] ys h = refl
  found_later p (y ∷ xs) ys h = here (p y) h (found_later p xs ys)
    where
      here : (b : Bool) → cond b (Some y) (find p xs) ≡ None → (find p xs ≡ None → find p (xs ++ ys) ≡ find p ys) → cond b (Some y) (find p (xs ++ ys)) ≡ find p ys
      here true g f = absurd cc
      here false g f = f g
