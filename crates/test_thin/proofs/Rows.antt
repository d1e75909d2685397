-- A fact of each row that a loop has passed.
use Rattle.std.proofs.Common.{◌≡◌, inl, inr, ℕ, zero, suc, ◌+◌, ◌<◌, List, [], ◌∷◌, get_or, Some, sym, subst, arith}
use Rattle.std.specs.List.{slice_get}
use Rattle.std.proofs.lemmas.Bool.{cases_lt}
use Rattle.st_thinmap.specs.declared.mapping.Mapping.{Mapping}

got_or : (rows : List Mapping) (i : ℕ) (row d : Mapping) → slice_get rows i ≡ Some row → get_or rows i d ≡ row
got_or [] i row d is = absurd (cc)
got_or (m ∷ rows) zero row d is = (let same : Some m ≡ Some row = is in cc)
got_or (m ∷ rows) (suc i) row d is = got_or rows i row d is

-- of the rows before i
abbrev pub Before : (Mapping → Type 0) → List Mapping → ℕ → Type 0
Before P rows i = (k : ℕ) (d : Mapping) → k < i → P (get_or rows k d)

pub one_more : (P : Mapping → Type 0) (rows : List Mapping) (i : ℕ) (row : Mapping) → slice_get rows i ≡ Some row → P row → Before P rows i → Before P rows (i + 1)
one_more P rows i row is here before k d lt = elim (cases_lt k i) [
  | inl earlier ↦ before k d earlier
  | inr late ↦ (let same : k ≡ i = omega arith in subst (λ (j : ℕ). P (get_or rows j d)) (sym same) (subst P (sym (got_or rows i row d is)) here))
]
