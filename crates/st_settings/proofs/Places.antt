-- the place of what is found
use Rattle.std.proofs.Common.{◌≡◌, ℕ, suc, ◌<◌, ◌+◌, not, List, [], ◌∷◌, length, Bool, true, false, cond, find, nat_lt, arith, Option, Some, None, slice_get, refl, sym, ap, ◌∙◌, subst}
use Rattle.std.specs.List.{position, position_or_len}
use Rattle.std.proofs.lemmas.Grind.{common_steps}
use Rattle.std.proofs.lemmas.List.Folds.{find_at}

module _ {X : Type 0} (q : X → Bool) where
  less : (m n : ℕ) → nat_lt m n ≡ true → m < n
  less m n h = grind (arith, common_steps)

  back : (m n : ℕ) (b : Bool) → nat_lt (1 + m) (suc n) ≡ b → nat_lt m n ≡ b
  back m n true h = grind (arith, common_steps)
  back m n false h = grind (arith, common_steps)

  beyond_so : (xs : List X) → nat_lt (position_or_len q xs) (length xs) ≡ false → find q xs ≡ None
  beyond_so [] h = refl
  beyond_so (x ∷ xs) h = here (q x) h (beyond_so xs)
    where
      here : (b : Bool) → nat_lt (cond (not b) (1 + position_or_len q xs) 0) (suc (length xs)) ≡ false → (nat_lt (position_or_len q xs) (length xs) ≡ false → find q xs ≡ None) → cond b (Some x) (find q xs) ≡ None
      here true h f = absurd (let bad : nat_lt 0 (suc (length xs)) ≡ true = grind (arith, common_steps) in cc)
      here false h f = f (back (position_or_len q xs) (length xs) false h)

  pub place_within : (xs : List X) (i : ℕ) → position q xs ≡ Some i → i < length xs
  place_within xs i e = by (nat_lt (position_or_len q xs) (length xs)) refl e
    where
      by : (b : Bool) → nat_lt (position_or_len q xs) (length xs) ≡ b → cond b (Some (position_or_len q xs)) None ≡ Some i → i < length xs
      by true k e = let same : position_or_len q xs ≡ i = cc in subst (λ (n : ℕ). n < length xs) same (less _ _ k)
      by false k e = absurd cc

  pub place_found : (xs : List X) (i : ℕ) → position q xs ≡ Some i → find q xs ≡ slice_get xs i
  place_found xs i e = by (nat_lt (position_or_len q xs) (length xs)) refl e
    where
      by : (b : Bool) → nat_lt (position_or_len q xs) (length xs) ≡ b → cond b (Some (position_or_len q xs)) None ≡ Some i → find q xs ≡ slice_get xs i
      by true k e = let same : position_or_len q xs ≡ i = cc in find_at q xs ∙ ap (slice_get xs) same
      by false k e = absurd cc

  pub place_none : (xs : List X) → position q xs ≡ None → find q xs ≡ None
  place_none xs e = by (nat_lt (position_or_len q xs) (length xs)) refl e
    where
      by : (b : Bool) → nat_lt (position_or_len q xs) (length xs) ≡ b → cond b (Some (position_or_len q xs)) None ≡ None → find q xs ≡ None
      by true k e = absurd cc
      by false k e = beyond_so xs k
