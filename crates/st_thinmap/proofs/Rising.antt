-- lists that rise strictly by a number
use Rattle.std.proofs.Common.{◌≡◌, ℕ, zero, suc, ◌+◌, ◌-◌, ◌<◌, ◌≤◌, Bool, true, false, List, [], ◌∷◌, length, get_or, cond, eqb, ltb, Some, None, inl, inr, refl, sym, ◌∙◌, ap, arith}
use Rattle.std.specs.List.{filter}
use Rattle.std.specs.List.Sorted.{IsNonDecreasingBy, IsPartitionPoint}
use Rattle.std.proofs.lemmas.Bool.{cases_lt, eq-eqb, ne_eqb, cond-true, cond-false, lt-ltb, le-ltb}
use Rattle.st_thinmap.specs.Order.{RisesFrom, item_at}
use Rattle.st_thinmap.specs.inner.Rank.{rank}

module _ {X : Type 0} (f : X → ℕ) where
  pub rises-lower : (low lower : ℕ) (xs : List X) → lower ≤ low → RisesFrom f low xs → RisesFrom f lower xs
  rises-lower low lower [] h r = tt
  rises-lower low lower (x ∷ xs) h r = (omega (arith, r.0), r.1)

  -- the i-th item
  pub rises-at : (low : ℕ) (xs : List X) (i : ℕ) (d : X) → RisesFrom f low xs → i < length xs → low + i ≤ f (get_or xs i d)
  rises-at low [] i d r h = absurd (omega arith)
  rises-at low (x ∷ xs) zero d r h = omega (arith, r.0)
  rises-at low (x ∷ xs) (suc i) d r h = omega (arith, rises-at (f x + 1) xs i d r.1 (omega arith), r.0)

  pub rises-between : (low : ℕ) (xs : List X) (i j : ℕ) (d : X) → RisesFrom f low xs → i ≤ j → j < length xs → f (get_or xs i d) + (j - i) ≤ f (get_or xs j d)
  rises-between low [] i j d r h w = absurd (omega arith)
  rises-between low (x ∷ xs) zero zero d r h w = omega arith
  rises-between low (x ∷ xs) zero (suc j) d r h w = omega (arith, rises-at (f x + 1) xs j d r.1 (omega arith))
  rises-between low (x ∷ xs) (suc i) zero d r h w = absurd (omega arith)
  rises-between low (x ∷ xs) (suc i) (suc j) d r h w =
      omega (arith, rises-between (f x + 1) xs i j d r.1 (omega arith) (omega arith))

  pub rises-sorted : (low : ℕ) (xs : List X) → RisesFrom f low xs → IsNonDecreasingBy f xs
  rises-sorted low xs r i j d h w = omega (arith, rises-between low xs i j d r (omega arith) w)

  -- the rank, by what stands there and before
  pub rank-is : (k : ℕ) (xs : List X) (i : ℕ) → IsPartitionPoint (λ (x : X). f x < k) (λ (x : X). k ≤ f x) xs i → i ≤ length xs → i ≡ rank f k xs
  rank-is k [] i h w = omega arith
  rank-is k (x ∷ xs) zero h w = sym (cond-false (ltb (f x) k) (suc (rank f k xs)) 0 (le-ltb (f x) k (h.1 0 x (omega arith) (omega arith))))
  rank-is k (x ∷ xs) (suc i) h w =
      ap suc (rank-is k xs i (λ j d a b. h.0 (suc j) d (omega arith) (omega arith), λ j d a b. h.1 (suc j) d (omega arith) (omega arith)) (omega arith))
      ∙ sym (cond-true (ltb (f x) k) (suc (rank f k xs)) 0 (lt-ltb (f x) k (h.0 0 x (omega arith) (omega arith))))

  pub rank-within : (k : ℕ) (xs : List X) → rank f k xs ≤ length xs
  rank-within k [] = omega arith
  rank-within k (x ∷ xs) = by (ltb (f x) k) (rank-within k xs)
    where
      by : (b : Bool) → rank f k xs ≤ length xs → cond b (suc (rank f k xs)) 0 ≤ suc (length xs)
      by true h = omega arith
      by false h = omega arith

  -- what a look-up finds, by what stands at the rank
  pub found : (low k : ℕ) (xs : List X) (d : X) → RisesFrom f low xs → rank f k xs < length xs → f (get_or xs (rank f k xs) d) ≡ k → item_at f k xs ≡ Some (get_or xs (rank f k xs) d)
  found low k [] d r h e = absurd (omega arith)
  found low k (x ∷ xs) d r h e = elim (cases_lt (f x) k) [
    | inl less ↦
        let at : rank f k (x ∷ xs) ≡ suc (rank f k xs) = cond-true (ltb (f x) k) (suc (rank f k xs)) 0 (lt-ltb (f x) k less) in
        let e2 : f (get_or xs (rank f k xs) d) ≡ k = sym (ap (λ (i : ℕ). f (get_or (x ∷ xs) i d)) at) ∙ e in
        cond-false (eqb (f x) k) (Some x) (item_at f k xs) (ne_eqb (f x) k (λ q. absurd (omega arith)))
        ∙ found (f x + 1) k xs d r.1 (omega (arith, at)) e2
        ∙ sym (ap (λ (i : ℕ). Some (get_or (x ∷ xs) i d)) at)
    | inr more ↦
        let at : rank f k (x ∷ xs) ≡ 0 = cond-false (ltb (f x) k) (suc (rank f k xs)) 0 (le-ltb (f x) k more) in
        let e2 : f x ≡ k = sym (ap (λ (i : ℕ). f (get_or (x ∷ xs) i d)) at) ∙ e in
        cond-true (eqb (f x) k) (Some x) (item_at f k xs) (eq-eqb (f x) k e2)
        ∙ sym (ap (λ (i : ℕ). Some (get_or (x ∷ xs) i d)) at)
  ]

  pub none-below : (low k : ℕ) (xs : List X) → RisesFrom f low xs → k < low → item_at f k xs ≡ None
  none-below low k [] r h = refl
  none-below low k (x ∷ xs) r h =
      cond-false (eqb (f x) k) (Some x) (item_at f k xs) (ne_eqb (f x) k (λ q. absurd (omega (arith, r.0))))
      ∙ none-below (f x + 1) k xs r.1 (omega (arith, r.0))

  pub not_found : (low k : ℕ) (xs : List X) (d : X) → RisesFrom f low xs → (rank f k xs < length xs → f (get_or xs (rank f k xs) d) ≡ k → ⊥) → item_at f k xs ≡ None
  not_found low k [] d r h = refl
  not_found low k (x ∷ xs) d r h = elim (cases_lt (f x) k) [
    | inl less ↦
        let at : rank f k (x ∷ xs) ≡ suc (rank f k xs) = cond-true (ltb (f x) k) (suc (rank f k xs)) 0 (lt-ltb (f x) k less) in
        cond-false (eqb (f x) k) (Some x) (item_at f k xs) (ne_eqb (f x) k (λ q. absurd (omega arith)))
        ∙ not_found (f x + 1) k xs d r.1 (λ w e. h (omega (arith, at)) (ap (λ (i : ℕ). f (get_or (x ∷ xs) i d)) at ∙ e))
    | inr more ↦
        let at : rank f k (x ∷ xs) ≡ 0 = cond-false (ltb (f x) k) (suc (rank f k xs)) 0 (le-ltb (f x) k more) in
        let ne : f x ≡ k → ⊥ = λ q. h (omega (arith, at)) (ap (λ (i : ℕ). f (get_or (x ∷ xs) i d)) at ∙ q) in
        cond-false (eqb (f x) k) (Some x) (item_at f k xs) (ne_eqb (f x) k ne)
        ∙ none-below (f x + 1) k xs r.1 (omega arith)
  ]

  -- a filtered list still rises
  pub rises-filter : (p : X → Bool) (low : ℕ) (xs : List X) → RisesFrom f low xs → RisesFrom f low (filter p xs)
  rises-filter p low [] r = tt
  rises-filter p low (x ∷ xs) r = by (p x) (rises-filter p (f x + 1) xs r.1)
    where
      by : (b : Bool) → RisesFrom f (f x + 1) (filter p xs) → RisesFrom f low (cond b (x ∷ filter p xs) (filter p xs))
      by true h = (r.0, h)
      by false h = rises-lower (f x + 1) low (filter p xs) (omega (arith, r.0)) h

  pub rank-none : (low k : ℕ) (xs : List X) → RisesFrom f low xs → k ≤ low → rank f k xs ≡ 0
  rank-none low k [] r h = refl
  rank-none low k (x ∷ xs) r h = cond-false (ltb (f x) k) (suc (rank f k xs)) 0 (le-ltb (f x) k (omega (arith, r.0)))

  -- just behind a number that is there
  pub rank-behind : (low k : ℕ) (xs : List X) (d : X) → RisesFrom f low xs → rank f k xs < length xs → f (get_or xs (rank f k xs) d) ≡ k → rank f (k + 1) xs ≡ rank f k xs + 1
  rank-behind low k [] d r h e = absurd (omega arith)
  rank-behind low k (x ∷ xs) d r h e = elim (cases_lt (f x) k) [
    | inl less ↦
        let at : rank f k (x ∷ xs) ≡ suc (rank f k xs) = cond-true (ltb (f x) k) (suc (rank f k xs)) 0 (lt-ltb (f x) k less) in
        let rest = rank-behind (f x + 1) k xs d r.1 (omega (arith, at)) (sym (ap (λ (i : ℕ). f (get_or (x ∷ xs) i d)) at) ∙ e) in
        let up : rank f (k + 1) (x ∷ xs) ≡ suc (rank f (k + 1) xs) = cond-true (ltb (f x) (k + 1)) (suc (rank f (k + 1) xs)) 0 (lt-ltb (f x) (k + 1) (omega arith)) in
        omega (arith, at, up, rest)
    | inr le ↦
        let at : rank f k (x ∷ xs) ≡ 0 = cond-false (ltb (f x) k) (suc (rank f k xs)) 0 (le-ltb (f x) k le) in
        let same : f x ≡ k = sym (ap (λ (i : ℕ). f (get_or (x ∷ xs) i d)) at) ∙ e in
        let up : rank f (k + 1) (x ∷ xs) ≡ suc (rank f (k + 1) xs) = cond-true (ltb (f x) (k + 1)) (suc (rank f (k + 1) xs)) 0 (lt-ltb (f x) (k + 1) (omega arith)) in
        let none : rank f (k + 1) xs ≡ 0 = rank-none (f x + 1) (k + 1) xs r.1 (omega arith) in
        omega (arith, at, up, none)
  ]

  -- what stands at the rank isn't lower
  pub at-rank : (low k : ℕ) (xs : List X) (d : X) → RisesFrom f low xs → rank f k xs < length xs → k ≤ f (get_or xs (rank f k xs) d)
  at-rank low k [] d r h = absurd (omega arith)
  at-rank low k (x ∷ xs) d r h = elim (cases_lt (f x) k) [
    | inl less ↦
        let at : rank f k (x ∷ xs) ≡ suc (rank f k xs) = cond-true (ltb (f x) k) (suc (rank f k xs)) 0 (lt-ltb (f x) k less) in
        omega (arith, at-rank (f x + 1) k xs d r.1 (omega (arith, at)), ap (λ (i : ℕ). f (get_or (x ∷ xs) i d)) at)
    | inr le ↦
        let at : rank f k (x ∷ xs) ≡ 0 = cond-false (ltb (f x) k) (suc (rank f k xs)) 0 (le-ltb (f x) k le) in
        omega (arith, ap (λ (i : ℕ). f (get_or (x ∷ xs) i d)) at)
  ]

  -- what a look-up finds stands at the rank
  pub found-in : (low k : ℕ) (xs : List X) (o : X) → RisesFrom f low xs → item_at f k xs ≡ Some o → rank f k xs < length xs
  found-in low k [] o r e = absurd (let bad : None ≡ Some o = e in cc)
  found-in low k (x ∷ xs) o r e = elim (cases_lt (f x) k) [
    | inl less ↦
        let at : rank f k (x ∷ xs) ≡ suc (rank f k xs) = cond-true (ltb (f x) k) (suc (rank f k xs)) 0 (lt-ltb (f x) k less) in
        let rest : item_at f k xs ≡ Some o = sym (cond-false (eqb (f x) k) (Some x) (item_at f k xs) (ne_eqb (f x) k (λ q. absurd (omega arith)))) ∙ e in
        omega (arith, at, found-in (f x + 1) k xs o r.1 rest)
    | inr le ↦
        let at : rank f k (x ∷ xs) ≡ 0 = cond-false (ltb (f x) k) (suc (rank f k xs)) 0 (le-ltb (f x) k le) in
        omega (arith, at)
  ]

  -- the same, where the rank is known by another name
  pub found-at : (k at : ℕ) (xs : List X) (d : X) → RisesFrom f 0 xs → at ≡ rank f k xs → at < length xs → f (get_or xs at d) ≡ k → item_at f k xs ≡ Some (get_or xs at d)
  found-at k at xs d r e h same =
      found 0 k xs d r (omega arith) (sym (ap (λ (i : ℕ). f (get_or xs i d)) e) ∙ same) ∙ sym (ap (λ (i : ℕ). Some (get_or xs i d)) e)

  pub missed-at : (k at : ℕ) (xs : List X) (d : X) → RisesFrom f 0 xs → at ≡ rank f k xs → (at < length xs → f (get_or xs at d) ≡ k → ⊥) → None ≡ item_at f k xs
  missed-at k at xs d r e h = sym (not_found 0 k xs d r (λ w same. h (omega arith) (ap (λ (i : ℕ). f (get_or xs i d)) e ∙ same)))
