-- Pools that aren't started, on their devices, by their serials.
use Rattle.std.proofs.Common.{◌≡◌, ℕ, List, [], ◌∷◌, ◌++◌, Bool, true, false, cond, map, Option, Some, None, refl, sym, ap, ◌∙◌}
use Rattle.std.specs.Prelude.{find, ◌==◌}
use Rattle.std.specs.List.{AllByRecursion, IsDistinct}
use Rattle.st_board.proofs.Serials.{same_number, unlike}

module _ {A : Type 0} (serial : A → ℕ) where
  abbrev pub its_at : ℕ → List A → Option A
  its_at q xs = find (λ x. serial x == q) xs

  abbrev pub same_serial : ℕ → ℕ → Bool
  same_serial a b = a == b

  abbrev pub AreApart : List A → Type 0
  AreApart xs = IsDistinct same_serial (map serial xs)

  pub last_of : (r : ℕ) (x : A) (xs : List A) → its_at (serial x) xs ≡ None → its_at r (xs ++ x ∷ []) ≡ cond (r == serial x) (Some x) (its_at r xs)
  last_of r x [] fresh = here (serial x == r) refl (r == serial x) refl
    where
      here : (b : Bool) → (serial x == r) ≡ b → (c : Bool) → (r == serial x) ≡ c → cond b (Some x) None ≡ cond c (Some x) None
      here true e true k = refl
      here false e false k = refl
      here true e false k = absurd (unlike r (serial x) k (sym (same_number (serial x) r e)))
      here false e true k = absurd (unlike (serial x) r e (sym (same_number r (serial x) k)))
  last_of r x (y ∷ ys) fresh = here (serial y == serial x) refl (serial y == r) refl (r == serial x) refl fresh (last_of r x ys)
    where
      here : (a : Bool) → (serial y == serial x) ≡ a → (b : Bool) → (serial y == r) ≡ b → (c : Bool) → (r == serial x) ≡ c → cond a (Some y) (its_at (serial x) ys) ≡ None
          → (its_at (serial x) ys ≡ None → its_at r (ys ++ x ∷ []) ≡ cond (r == serial x) (Some x) (its_at r ys)) → cond b (Some y) (its_at r (ys ++ x ∷ [])) ≡ cond c (Some x) (cond b (Some y) (its_at r ys))
      here true d b e c k f ih = absurd cc
      here false d true e true k f ih = absurd (unlike (serial y) (serial x) d (same_number (serial y) r e ∙ same_number r (serial x) k))
      here false d true e false k f ih = refl
      here false d false e c k f ih = ih f ∙ ap (λ b. cond b (Some x) (its_at r ys)) k

  -- a serial that isn't found is apart from all
  none_apart : (n : ℕ) (ys : List A) → its_at n ys ≡ None → AllByRecursion (λ m. (m == n) ≡ false) (map serial ys)
  none_apart n [] h = tt
  none_apart n (y ∷ ys) h = here (serial y == n) refl h (none_apart n ys)
    where
      here : (b : Bool) → (serial y == n) ≡ b → cond b (Some y) (its_at n ys) ≡ None → (its_at n ys ≡ None → AllByRecursion (λ m. (m == n) ≡ false) (map serial ys)) → AllByRecursion (λ m. (m == n) ≡ false) (map serial (y ∷ ys))
      here true e k rest = absurd cc
      here false e k rest = (e, rest k)

  all_last : (P : ℕ → Type 0) (xs : List A) (x : A) → AllByRecursion P (map serial xs) → P (serial x) → AllByRecursion P (map serial (xs ++ x ∷ []))
  all_last P [] x h g = (g, tt)
  all_last P (y ∷ ys) x h g = (h.0, all_last P ys x h.1 g)

  last_apart : (x : A) (xs : List A) → AllByRecursion (λ m. (m == serial x) ≡ false) (map serial xs) → AreApart xs → AreApart (xs ++ x ∷ [])
  unfolding IsDistinct
  last_apart x [] f h = (tt, tt)
  last_apart x (y ∷ ys) f h = (all_last (λ m. (serial y == m) ≡ false) ys x h.0 f.0, last_apart x ys f.1 h.1)

  pub apart_last : (x : A) (xs : List A) → its_at (serial x) xs ≡ None → AreApart xs → AreApart (xs ++ x ∷ [])
  apart_last x xs fresh h = last_apart x xs (none_apart (serial x) xs fresh) h
