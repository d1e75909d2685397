-- Rows of which each comes before the next rise.
use Rattle.std.proofs.Common.{◌≡◌, ℕ, zero, suc, ◌+◌, ◌-◌, ◌<◌, Bool, true, false, List, [], ◌∷◌, length, refl, sym, subst, ◌∙◌, arith}
use Rattle.std.specs.Bool.{Decides}
use Rattle.std.specs.List.{slice_index_or, AllAdjacentBelow, IsAllAdjacentAnswer}
use Rattle.st_flexrec.specs.Order.{Rises}

pub record GoesOn {A : Type 0} (comes_before : A → A → Bool) : Type 0 where
  pub on : (a b c : A) → comes_before a b ≡ true → comes_before b c ≡ true → comes_before a c ≡ true

far : {A : Type 0} (before : A → A → Bool) → GoesOn before → (rows : List A) → AllAdjacentBelow (λ x y. true ≡ before x y) rows (length rows)
    → (i n j : ℕ) (d : A) → j ≡ i + n + 1 → j < length rows → before (slice_index_or rows i d) (slice_index_or rows j d) ≡ true
far before goes rows all i zero j d is h =
    let next : i + 1 ≡ j = omega arith in
    subst (λ (k : ℕ). before (slice_index_or rows i d) (slice_index_or rows k d) ≡ true) next (sym (all i d (omega arith)))
far before goes rows all i (suc n) j d is h =
    let last : i + n + 1 + 1 ≡ j = omega arith in
    goes.on (slice_index_or rows i d) (slice_index_or rows (i + n + 1) d) (slice_index_or rows j d) (far before goes rows all i n (i + n + 1) d refl (omega arith))
    (subst (λ (k : ℕ). before (slice_index_or rows (i + n + 1) d) (slice_index_or rows k d) ≡ true) last (sym (all (i + n + 1) d (omega arith))))

falls : {A : Type 0} (before : A → A → Bool) (rows : List A) (k : ℕ) → k + 1 < length rows → ((d : A) → false ≡ before (slice_index_or rows k d) (slice_index_or rows (k + 1) d)) → Rises before rows → false ≡ true
falls before [] k h at rise = absurd (omega arith)
falls before (x ∷ xs) k h at rise = at x ∙ rise k (k + 1) x (omega arith) h

pub rises_by_neighbours : {A : Type 0} (before : A → A → Bool) → GoesOn before → (rows : List A) (r : Bool) → IsAllAdjacentAnswer (λ x y v. v ≡ before x y) rows r → Decides r (Rises before rows)
rises_by_neighbours before goes rows true all = ((λ e i j d lower h. far before goes rows all i (j - i - 1) j d (omega arith) h), (λ rise. refl))
rises_by_neighbours before goes rows false all = ((λ e. absurd cc), (λ rise. falls before rows all.0 all.1 all.2 rise))
