-- lists by index and by recursion
use Rattle.std.proofs.Common.{◌≡◌, ℕ, suc, zero, ◌<◌, List, [], ◌∷◌, Bool, true, false, ◌&&◌, length, map, Some, refl, ap, subst, arith}
use Rattle.std.specs.Prelude.{slice_get, nat_eq}
use Rattle.std.specs.List.{AllByRecursion, AllPairs, IsDistinct, list_all, slice_index_or}
use Rattle.std.proofs.lemmas.Grind.{common_steps}
use Rattle.std.proofs.lemmas.Map.Keys.{IsDistinct-head, IsDistinct-tail}
use Rattle.st_model.specs.ValidPool.{EachPair}

module _ {X : Type 0} where
  pub All-weaker : (P Q : X → Type 0) (xs : List X) → ((x : X) → P x → Q x) → AllByRecursion P xs → AllByRecursion Q xs
  All-weaker P Q [] f h = tt
  All-weaker P Q (x ∷ xs) f h = (f x h.0, All-weaker P Q xs f h.1)

  pub All-both : (P Q : X → Type 0) (xs : List X) → AllByRecursion P xs → AllByRecursion Q xs → AllByRecursion (λ x. P x × Q x) xs
  All-both P Q [] h g = tt
  All-both P Q (x ∷ xs) h g = ((h.0, g.0), All-both P Q xs h.1 g.1)

  pub All-at : (P : X → Type 0) (xs : List X) (k : ℕ) (x : X) → AllByRecursion P xs → slice_get xs k ≡ Some x → P x
  All-at P [] zero x h e = absurd cc
  All-at P [] (suc k) x h e = absurd cc
  All-at P (y ∷ ys) zero x h e = let same : y ≡ x = cc in subst P same h.0
  All-at P (y ∷ ys) (suc k) x h e = All-at P ys k x h.1 e

  -- what holds at each index holds of all
  pub All-from : (P : X → Type 0) (xs : List X) → ((k : ℕ) (x : X) → slice_get xs k ≡ Some x → P x) → AllByRecursion P xs
  All-from P [] f = tt
  All-from P (x ∷ xs) f = (f 0 x refl, All-from P xs (λ k y e. f (suc k) y e))

  pub all_true : (p : X → Bool) (xs : List X) → list_all p xs ≡ true → AllByRecursion (λ x. p x ≡ true) xs
  all_true p [] h = tt
  all_true p (x ∷ xs) h = (and_left (p x) (list_all p xs) h, all_true p xs (and_right (p x) (list_all p xs) h))
    where
      and_left : (a b : Bool) → (a && b) ≡ true → a ≡ true
      and_left true b e = refl
      and_left false b e = absurd cc

      and_right : (a b : Bool) → (a && b) ≡ true → b ≡ true
      and_right true b e = e
      and_right false b e = absurd cc

  pair_head : (R : X → X → Type 0) (x : X) (xs : List X) → AllPairs R (x ∷ xs) → AllByRecursion (R x) xs
  pair_head R x xs h = from xs (λ k d lt. h 0 (suc k) d (omega arith) (omega (arith, lt)))
    where
      from : (ys : List X) → ((k : ℕ) (d : X) → k < length ys → R x (slice_index_or ys k d)) → AllByRecursion (R x) ys
      from [] f = tt
      from (y ∷ ys) f = (f 0 y (omega arith), from ys (λ k d lt. f (suc k) d (omega (arith, lt))))

  pub pairs : (R : X → X → Type 0) (xs : List X) → AllPairs R xs → EachPair R xs
  pairs R [] h = tt
  pairs R (x ∷ xs) h = (pair_head R x xs h, pairs R xs (λ i j d lt within. h (suc i) (suc j) d (omega (arith, lt)) (omega (arith, within))))

  pub pair_at : (R : X → X → Type 0) (xs : List X) (i j : ℕ) (x y : X) → EachPair R xs → i < j → slice_get xs i ≡ Some x → slice_get xs j ≡ Some y → R x y
  pair_at R [] i j x y h lt e f = absurd (none i e)
    where
      none : (k : ℕ) → slice_get [] k ≡ Some x → ⊥
      none zero k = absurd cc
      none (suc n) k = absurd cc
  pair_at R (z ∷ zs) i zero x y h lt e f = absurd (omega (arith, lt))
  pair_at R (z ∷ zs) zero (suc j) x y h lt e f = let same : z ≡ x = cc in subst (λ (w : X). R w y) same (All-at (R z) zs j y h.0 f)
  pair_at R (z ∷ zs) (suc i) (suc j) x y h lt e f = pair_at R zs i j x y h.1 (omega (arith, lt)) e f

module _ {X Y : Type 0} where
  pub All-map : (P : Y → Type 0) (f : X → Y) (xs : List X) → AllByRecursion (λ x. P (f x)) xs → AllByRecursion P (map f xs)
  All-map P f [] h = tt
  All-map P f (x ∷ xs) h = (h.0, All-map P f xs h.1)

  -- pairs of which each passes
  pub pairs-map : (Q : X → Type 0) (R : X → X → Type 0) (S : Y → Y → Type 0) (f : X → Y) (xs : List X) → ((x y : X) → Q x → Q y → R x y → S (f x) (f y)) → AllByRecursion Q xs → EachPair R xs → EachPair S (map f xs)
  pairs-map Q R S f [] k all h = tt
  pairs-map Q R S f (x ∷ xs) k all h = (heads xs all.1 h.0, pairs-map Q R S f xs k all.1 h.1)
    where
      heads : (ys : List X) → AllByRecursion Q ys → AllByRecursion (R x) ys → AllByRecursion (S (f x)) (map f ys)
      heads [] a g = tt
      heads (y ∷ ys) a g = (k x y all.0 a.0 g.0, heads ys a.1 g.1)

eq_true : (a b : ℕ) → a ≡ b → nat_eq a b ≡ true
eq_true a b e = grind (arith, common_steps)

-- at two places of distinct numbers stand different ones
pub distinct_at : (ns : List ℕ) (i j n : ℕ) → IsDistinct nat_eq ns → slice_get ns i ≡ Some n → slice_get ns j ≡ Some n → i ≡ j
distinct_at [] i j n d e f = absurd (none i e)
  where
    none : (k : ℕ) → slice_get [] k ≡ Some n → ⊥
    none zero k = absurd cc
    none (suc m) k = absurd cc
distinct_at (m ∷ ms) zero zero n d e f = refl
distinct_at (m ∷ ms) zero (suc j) n d e f =
    let same : m ≡ n = cc in
    absurd (let no : nat_eq m n ≡ false = All-at (λ k. nat_eq m k ≡ false) ms j n (IsDistinct-head nat_eq m ms d) f in let yes = eq_true m n same in cc)
distinct_at (m ∷ ms) (suc i) zero n d e f =
    let same : m ≡ n = cc in
    absurd (let no : nat_eq m n ≡ false = All-at (λ k. nat_eq m k ≡ false) ms i n (IsDistinct-head nat_eq m ms d) e in let yes = eq_true m n same in cc)
distinct_at (m ∷ ms) (suc i) (suc j) n d e f = ap suc (distinct_at ms i j n (IsDistinct-tail nat_eq m ms d) e f)
