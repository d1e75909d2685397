-- The table of places.
use Rattle.std.proofs.Common.{◌≡◌, ◌≢◌, ◌⊎◌, inl, inr, ℕ, zero, suc, ◌+◌, ◌*◌, ◌<◌, ◌≤◌, Option, Some, None, List, [], ◌∷◌, length, get_or, slice_set, replicate, IfSome, refl, sym, ◌∙◌, ap, arith}
use Rattle.std.proofs.lemmas.List.{get_or-set_same, get_or-set_other}
use Rattle.std.proofs.lemmas.Bool.{cases_lt}
use Rattle.st_blocks.specs.Kept.{kept}

abbrev Places : Type 0
Places = List (Option ℕ)

pub kept_le : (places : Places) → kept places ≤ length places
kept_le [] = omega arith
kept_le (None ∷ places) = omega (arith, kept_le places)
kept_le (Some p ∷ places) = omega (arith, kept_le places)

-- where one has no place, fewer have one
pub kept_fewer : (places : Places) (k : ℕ) → k < length places → get_or places k None ≡ None → kept places < length places
kept_fewer [] k lt none = absurd (omega arith)
kept_fewer (None ∷ places) zero lt none = omega (arith, kept_le places)
kept_fewer (Some p ∷ places) zero lt none = absurd (let e : Some p ≡ None = none in cc)
kept_fewer (None ∷ places) (suc k) lt none = omega (arith, kept_fewer places k (omega arith) none)
kept_fewer (Some p ∷ places) (suc k) lt none = omega (arith, kept_fewer places k (omega arith) none)

pub kept_set : (places : Places) (k p : ℕ) → k < length places → get_or places k None ≡ None → kept (slice_set places k (Some p)) ≡ kept places + 1
kept_set [] k p lt none = absurd (omega arith)
kept_set (None ∷ places) zero p lt none = refl
kept_set (Some q ∷ places) zero p lt none = absurd (let e : Some q ≡ None = none in cc)
kept_set (None ∷ places) (suc k) p lt none = kept_set places k p (omega arith) none
kept_set (Some q ∷ places) (suc k) p lt none = omega (arith, kept_set places k p (omega arith) none)

pub kept_none : (n : ℕ) → kept (replicate n None) ≡ 0
kept_none zero = refl
kept_none (suc n) = kept_none n

-- a place lies in the room
pub in_room : (places : Places) (len k : ℕ) → ((j p : ℕ) → get_or places j None ≡ Some p → 65536 * (p + 1) ≤ len) → (o : Option ℕ) → get_or places k None ≡ o → IfSome o (λ p. 65536 * (p + 1) ≤ len)
in_room places len k within None is = tt
in_room places len k within (Some p) is = within k p is

is_or_not : (j k : ℕ) → (j ≡ k) ⊎ (j ≢ k)
is_or_not j k = elim (cases_lt j k) [
  | inl low ↦ inr (λ e. absurd (omega (arith, e, low)))
  | inr ge ↦ elim (cases_lt k j) [
    | inl high ↦ inr (λ e. absurd (omega (arith, e, high)))
    | inr le ↦ inl (omega (arith, ge, le))
  ]
]

-- Block k gets the place q, which is the next.
module _ (places : Places) (k q len : ℕ) (lt : k < length places) (next : len ≡ 65536 * q) (within : (j p : ℕ) → get_or places j None ≡ Some p → 65536 * (p + 1) ≤ len) where
  abbrev set : Places
  set = slice_set places k (Some q)

  pub placed : get_or set k None ≡ Some q
  placed = get_or-set_same places k (Some q) None lt

  pub others_stay : (j : ℕ) → j ≢ k → get_or set j None ≡ get_or places j None
  others_stay j ne = get_or-set_other places k j (Some q) None ne

  pub earlier : (j p : ℕ) → get_or places j None ≡ Some p → p ≢ q
  earlier j p is = λ e. absurd (let le = within j p is in omega (arith, le, next, e))

  pub within_more : (len' : ℕ) → len + 65536 ≤ len' → (j p : ℕ) → get_or set j None ≡ Some p → 65536 * (p + 1) ≤ len'
  within_more len' more j p is = elim (is_or_not j k) [
    | inl e ↦
        let here : Some q ≡ Some p = sym placed ∙ ap (λ (i : ℕ). get_or set i None) (sym e) ∙ is in
        let same : q ≡ p = cc in
        omega (arith, same, next, more)
    | inr ne ↦ (let le = within j p (sym (others_stay j ne) ∙ is) in omega (arith, le, more))
  ]

  new_apart : (j p : ℕ) → j ≢ k → get_or set j None ≡ Some p → get_or set k None ≡ Some p → ⊥
  new_apart j p ne is here =
      let e : Some p ≡ Some q = sym here ∙ placed in
      let same : p ≡ q = cc in
      earlier j p (sym (others_stay j ne) ∙ is) same

  pub apart_more : ((i j p : ℕ) → get_or places i None ≡ Some p → get_or places j None ≡ Some p → i ≡ j) → (i j p : ℕ) → get_or set i None ≡ Some p → get_or set j None ≡ Some p → i ≡ j
  apart_more apart i j p one two = elim (is_or_not i k) [
    | inl e ↦ elim (is_or_not j k) [
      | inl f ↦ e ∙ sym f
      | inr ne ↦ absurd (new_apart j p ne two (ap (λ (n : ℕ). get_or set n None) (sym e) ∙ one))
    ]
    | inr ne ↦ elim (is_or_not j k) [
      | inl f ↦ absurd (new_apart i p ne one (ap (λ (n : ℕ). get_or set n None) (sym f) ∙ two))
      | inr nf ↦ apart i j p (sym (others_stay i ne) ∙ one) (sym (others_stay j nf) ∙ two)
    ]
  ]

abbrev pub no_where : Option ℕ
no_where = None

pub any_default : (places : Places) (k : ℕ) (d e : Option ℕ) → k < length places → get_or places k d ≡ get_or places k e
any_default [] k d e lt = absurd (omega arith)
any_default (o ∷ places) zero d e lt = refl
any_default (o ∷ places) (suc k) d e lt = any_default places k d e (omega arith)
