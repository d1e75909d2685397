-- where a search stops
use Rattle.std.proofs.Common.{◌≡◌, ℕ, suc, zero, ◌<◌, ◌+◌, not, List, [], ◌∷◌, length, map, Bool, true, false, cond, find, nat_lt, arith, Option, Some, None, IfSome, IfNone, slice_get, refl, subst}
use Rattle.std.specs.List.{position, position_or_len}
use Rattle.std.proofs.lemmas.Grind.{common_steps}
use Rattle.std.proofs.lemmas.Slice.Eq.{bytes_eq-Decides}
use Rattle.st_model.specs.Look.{Text, is_called}
use Rattle.st_pool.specs.View.{PoolView}

module _ {X Y : Type 0} (f : X → Y) (q : Y → Bool) where
  abbrev passes : X → Bool
  passes x = q (f x)

  abbrev Passing : List X → ℕ → Type 0
  Passing xs n = (x : X) × (slice_get xs n ≡ Some x) × (q (f x) ≡ true)

  at_first : (x : X) (xs : List X) (b : Bool) → q (f x) ≡ b → zero ≡ cond (not b) (1 + position_or_len passes xs) 0 → Passing (x ∷ xs) zero
  at_first x xs true t e = (x, refl, t)
  at_first x xs false t e = absurd (omega (arith, e))

  onward : (x : X) (xs : List X) (n : ℕ) (b : Bool) → suc n ≡ cond (not b) (1 + position_or_len passes xs) 0 → n ≡ position_or_len passes xs
  onward x xs n true e = absurd (omega (arith, e))
  onward x xs n false e = omega (arith, e)

  passing_at : (xs : List X) (n : ℕ) → n ≡ position_or_len passes xs → n < length xs → Passing xs n
  passing_at [] n e h = absurd (omega (arith, h))
  passing_at (x ∷ xs) zero e h = at_first x xs (q (f x)) refl e
  passing_at (x ∷ xs) (suc n) e h = passing_at xs n (onward x xs n (q (f x)) e) (omega (arith, h))

  less : (m n : ℕ) → nat_lt m n ≡ true → m < n
  less m n h = grind (arith, common_steps)

  back : (m n : ℕ) (b : Bool) → nat_lt (1 + m) (suc n) ≡ b → nat_lt m n ≡ b
  back m n true h = grind (arith, common_steps)
  back m n false h = grind (arith, common_steps)

  beyond : (xs : List X) → nat_lt (position_or_len passes xs) (length xs) ≡ false → find q (map f xs) ≡ None
  beyond [] h = refl
  beyond (x ∷ xs) h = here (q (f x)) h (beyond xs)
    where
      here : (b : Bool) → nat_lt (cond (not b) (1 + position_or_len passes xs) 0) (suc (length xs)) ≡ false → (nat_lt (position_or_len passes xs) (length xs) ≡ false → find q (map f xs) ≡ None) → cond b (Some (f x)) (find q (map f xs)) ≡ None
      here true h r = absurd (let bad : nat_lt 0 (suc (length xs)) ≡ true = grind (arith, common_steps) in cc)
      here false h r = r (back (position_or_len passes xs) (length xs) false h)

  pub found_place : (xs : List X) (o : Option ℕ) → position passes xs ≡ o → IfSome o (Passing xs)
  found_place xs None e = tt
  found_place xs (Some i) e = by (nat_lt (position_or_len passes xs) (length xs)) refl e
    where
      by : (b : Bool) → nat_lt (position_or_len passes xs) (length xs) ≡ b → cond b (Some (position_or_len passes xs)) None ≡ Some i → Passing xs i
      by true k e = let same : position_or_len passes xs ≡ i = cc in subst (Passing xs) same (passing_at xs (position_or_len passes xs) refl (less _ _ k))
      by false k e = absurd cc

  pub no_place : (xs : List X) (o : Option ℕ) → position passes xs ≡ o → IfNone o (find q (map f xs) ≡ None)
  no_place xs (Some i) e = tt
  no_place xs None e = by (nat_lt (position_or_len passes xs) (length xs)) refl e
    where
      by : (b : Bool) → nat_lt (position_or_len passes xs) (length xs) ≡ b → cond b (Some (position_or_len passes xs)) None ≡ None → find q (map f xs) ≡ None
      by true k e = absurd cc
      by false k e = beyond xs k

-- a pool that is called so has this name
pub named : {D : Type 0} (name : Text) (cells : List (PoolView D)) (o : Option ℕ)
    → IfSome o (λ i. (c : PoolView D) × (slice_get cells i ≡ Some c) × (is_called name c.pool ≡ true))
    → IfSome o (λ i. (c : PoolView D) × (slice_get cells i ≡ Some c) × (c.pool.name ≡ name))
named name cells None h = tt
named name cells (Some i) h = (h.0, h.1, (bytes_eq-Decides h.0.pool.name name).0 h.2)
