-- Items by their serials, with one of them taken out.
use Rattle.std.proofs.Common.{◌≡◌, ℕ, zero, suc, ◌+◌, arith, length, List, [], ◌∷◌, Bool, true, false, cond, map, remove, Some, None, refl, sym, ap, subst, ◌∙◌}
use Rattle.std.specs.Prelude.{slice_get, ◌==◌}
use Rattle.std.specs.List.{AllByRecursion, IsDistinct}
use Rattle.st_board.proofs.Serials.{same_number, self_number, unlike}
use Rattle.st_board.proofs.Halted.{AreApart, its_at}

module _ {A : Type 0} (serial : A → ℕ) where
  none_of : (r n : ℕ) (ys : List A) → n ≡ r → AllByRecursion (λ m. (n == m) ≡ false) (map serial ys) → its_at serial r ys ≡ None
  none_of r n [] e h = refl
  none_of r n (y ∷ ys) e h = here (serial y == r) refl (none_of r n ys e h.1)
    where
      here : (b : Bool) → (serial y == r) ≡ b → its_at serial r ys ≡ None → cond b (Some y) (its_at serial r ys) ≡ None
      here true k rest = absurd (unlike n (serial y) h.0 (e ∙ sym (same_number (serial y) r k)))
      here false k rest = rest

  apart_at : (n i : ℕ) (x : A) (ys : List A) → AllByRecursion (λ m. (n == m) ≡ false) (map serial ys) → slice_get ys i ≡ Some x → (n == serial x) ≡ false
  apart_at n zero x [] h e = absurd cc
  apart_at n (suc i) x [] h e = absurd cc
  apart_at n zero x (y ∷ ys) h e = let same : y ≡ x = cc in subst (λ (z : A). (n == serial z) ≡ false) same h.0
  apart_at n (suc i) x (y ∷ ys) h e = apart_at n i x ys h.1 e

  -- it is found by its serial
  pub found_own : (i : ℕ) (x : A) (xs : List A) → AreApart serial xs → slice_get xs i ≡ Some x → its_at serial (serial x) xs ≡ Some x
  unfolding IsDistinct
  found_own zero x [] h e = absurd cc
  found_own (suc i) x [] h e = absurd cc
  found_own zero x (y ∷ ys) h e =
      let same : y ≡ x = cc in
      ap (λ (b : Bool). cond b (Some y) (its_at serial (serial x) ys)) (subst (λ (z : A). (serial y == serial z) ≡ true) same (self_number (serial y))) ∙ ap (λ (z : A). Some z) same
  found_own (suc i) x (y ∷ ys) h e = ap (λ (b : Bool). cond b (Some y) (its_at serial (serial x) ys)) (apart_at (serial y) i x ys h.0 e) ∙ found_own i x ys h.1 e

  -- without it the others are found
  pub removed_at : (r i : ℕ) (x : A) (xs : List A) → AreApart serial xs → slice_get xs i ≡ Some x → its_at serial r (remove xs i) ≡ cond (r == serial x) None (its_at serial r xs)
  unfolding IsDistinct
  removed_at r zero x [] h e = absurd cc
  removed_at r (suc i) x [] h e = absurd cc
  removed_at r zero x (y ∷ ys) h e = here (serial y == r) refl (r == serial x) refl
    where
      same : y ≡ x
      same = cc

      here : (b : Bool) → (serial y == r) ≡ b → (c : Bool) → (r == serial x) ≡ c → its_at serial r ys ≡ cond c None (cond b (Some y) (its_at serial r ys))
      here true k true d = none_of r (serial y) ys (same_number (serial y) r k) h.0
      here true k false d = absurd (unlike r (serial x) d (sym (same_number (serial y) r k) ∙ ap serial same))
      here false k true d = absurd (unlike (serial y) r k (ap serial same ∙ sym (same_number r (serial x) d)))
      here false k false d = refl
  removed_at r (suc i) x (y ∷ ys) h e = here (serial y == r) refl (r == serial x) refl (removed_at r i x ys h.1 e)
    where
      here : (b : Bool) → (serial y == r) ≡ b → (c : Bool) → (r == serial x) ≡ c → its_at serial r (remove ys i) ≡ cond c None (its_at serial r ys) → cond b (Some y) (its_at serial r (remove ys i)) ≡ cond c None (cond b (Some y) (its_at serial r ys))
      here true k true d ih = absurd (unlike (serial y) (serial x) (apart_at (serial y) i x ys h.0 e) (same_number (serial y) r k ∙ same_number r (serial x) d))
      here true k false d ih = refl
      here false k c d ih = ih

  all_removed : (P : ℕ → Type 0) (xs : List A) (i : ℕ) → AllByRecursion P (map serial xs) → AllByRecursion P (map serial (remove xs i))
  all_removed P [] zero h = h
  all_removed P [] (suc i) h = h
  all_removed P (y ∷ ys) zero h = h.1
  all_removed P (y ∷ ys) (suc i) h = (h.0, all_removed P ys i h.1)

  pub removed_apart : (xs : List A) (i : ℕ) → AreApart serial xs → AreApart serial (remove xs i)
  unfolding IsDistinct
  removed_apart [] zero h = h
  removed_apart [] (suc i) h = h
  removed_apart (y ∷ ys) zero h = h.1
  removed_apart (y ∷ ys) (suc i) h = (all_removed (λ m. (serial y == m) ≡ false) ys i h.0, removed_apart ys i h.1)

  pub removed_count : (x : A) (xs : List A) (i : ℕ) → slice_get xs i ≡ Some x → length (remove xs i) + 1 ≡ length xs
  removed_count x [] zero e = absurd cc
  removed_count x [] (suc i) e = absurd cc
  removed_count x (y ∷ ys) zero e = omega arith
  removed_count x (y ∷ ys) (suc i) e = let rest = removed_count x ys i e in omega (arith, rest)
