-- Places of cells after a touch, and after a move to the front.
use Rattle.std.proofs.Common.{◌≡◌, ◌≢◌, ◌⊎◌, inl, inr, ℕ, zero, suc, true, false, List, [], ◌∷◌, take, cond, eqb, Option, Some, None, IfSome, Result, Ok, Err, OnOk, OnErr, refl, sym, ◌∙◌, ap, subst}
use Rattle.std.specs.Map.{values_of}
use Rattle.std.proofs.lemmas.Bool.{cases_eq, cases_Bool, eq-eqb, ne_eqb, eqb-true, cond-true, cond-false, false≢true}
use Rattle.st_limits.specs.Cache.{has, AreDistinct}
use Rattle.st_cachemap.specs.Cached.{place_in, without_cell, fronted_at}
use Rattle.st_cachemap.proofs.Entries.{skipped, kept, found_place}

pub first_place : (cell p : ℕ) (es : List (ℕ × ℕ)) → place_in ((cell, p) ∷ es) cell ≡ Some p
first_place cell p es = cond-true (eqb cell cell) (Some p) (place_in es cell) (eq-eqb cell cell refl)

without_other : (cell c : ℕ) (es : List (ℕ × ℕ)) → c ≢ cell → place_in (without_cell cell es) c ≡ place_in es c
without_other cell c [] ne = refl
without_other cell c (e ∷ es) ne = elim (cases_eq cell e.0) [
  | inl same ↦
      ap (λ (fs : List (ℕ × ℕ)). place_in fs c) (skipped (eqb cell e.0) e (without_cell cell es) (eq-eqb cell e.0 same))
      ∙ without_other cell c es ne
      ∙ sym (cond-false (eqb c e.0) (Some e.1) (place_in es c) (ne_eqb c e.0 (λ q. ne (q ∙ sym same))))
  | inr other ↦
      ap (λ (fs : List (ℕ × ℕ)). place_in fs c) (kept (eqb cell e.0) e (without_cell cell es) (ne_eqb cell e.0 other))
      ∙ ap (cond (eqb c e.0) (Some e.1)) (without_other cell c es ne)
]

pub fronted_other : (cell p c : ℕ) (es : List (ℕ × ℕ)) → c ≢ cell → place_in (fronted_at cell p es) c ≡ place_in es c
fronted_other cell p c es ne = cond-false (eqb c cell) (Some p) (place_in (without_cell cell es) c) (ne_eqb c cell ne) ∙ without_other cell c es ne

pub fronted_same : (cell p : ℕ) (es : List (ℕ × ℕ)) → place_in es cell ≡ Some p → (c : ℕ) → place_in (fronted_at cell p es) c ≡ place_in es c
fronted_same cell p es at c = elim (cases_eq c cell) [
  | inl e ↦ subst (λ (d : ℕ). place_in (fronted_at cell p es) d ≡ place_in es d) (sym e) (first_place cell p (without_cell cell es) ∙ sym at)
  | inr ne ↦ fronted_other cell p c es ne
]

pub taken : (n : ℕ) (es : List (ℕ × ℕ)) (c q : ℕ) → place_in (take n es) c ≡ Some q → place_in es c ≡ Some q
taken zero es c q at = absurd (let bad : None ≡ Some q = at in cc)
taken (suc n) [] c q at = at
taken (suc n) (e ∷ es) c q at = elim (cases_Bool (eqb c e.0)) [
  | inl t ↦ cond-true (eqb c e.0) (Some e.1) (place_in es c) t ∙ sym (cond-true (eqb c e.0) (Some e.1) (place_in (take n es) c) t) ∙ at
  | inr f ↦ cond-false (eqb c e.0) (Some e.1) (place_in es c) f ∙ taken n es c q (sym (cond-false (eqb c e.0) (Some e.1) (place_in (take n es) c) f) ∙ at)
]

-- two cells of one place are one
pub one_cell : (es : List (ℕ × ℕ)) → AreDistinct (values_of es) → (a b q : ℕ) → place_in es a ≡ Some q → place_in es b ≡ Some q → a ≡ b
one_cell [] distinct a b q at_a at_b = absurd (let bad : None ≡ Some q = at_a in cc)
one_cell (e ∷ es) distinct a b q at_a at_b = by (cases_Bool (eqb a e.0)) (cases_Bool (eqb b e.0)) (one_cell es distinct.1 a b q)
  where
    here : (c : ℕ) → eqb c e.0 ≡ true → place_in (e ∷ es) c ≡ Some q → e.1 ≡ q
    here c t at = (let both : Some e.1 ≡ Some q = sym (cond-true (eqb c e.0) (Some e.1) (place_in es c) t) ∙ at in cc)

    later : (c : ℕ) → eqb c e.0 ≡ false → place_in (e ∷ es) c ≡ Some q → place_in es c ≡ Some q
    later c f at = sym (cond-false (eqb c e.0) (Some e.1) (place_in es c) f) ∙ at

    never : (c d : ℕ) → eqb c e.0 ≡ true → place_in (e ∷ es) c ≡ Some q → eqb d e.0 ≡ false → place_in (e ∷ es) d ≡ Some q → ⊥
    never c d t at f at_d = false≢true (sym distinct.0 ∙ ap (λ (k : ℕ). has k (values_of es)) (here c t at) ∙ (found_place es d q (later d f at_d)).1)

    by : (eqb a e.0 ≡ true) ⊎ (eqb a e.0 ≡ false) → (eqb b e.0 ≡ true) ⊎ (eqb b e.0 ≡ false) → (place_in es a ≡ Some q → place_in es b ≡ Some q → a ≡ b) → a ≡ b
    by (inl t) (inl u) rest = eqb-true a e.0 t ∙ sym (eqb-true b e.0 u)
    by (inl t) (inr f) rest = absurd (never a b t at_a f at_b)
    by (inr f) (inl t) rest = absurd (never b a t at_b f at_a)
    by (inr f) (inr g) rest = rest (later a f at_a) (later b g at_b)

-- what holds where there is something, or nothing
pub some_at : {A : Type 0} (o : Option A) (Q : A → Type 0) → IfSome o Q → (x : A) → o ≡ Some x → Q x
some_at o Q h x e = subst (λ (p : Option _). IfSome p Q) e h

pub none_some : {A : Type 0} (o : Option A) (Q : A → Type 0) → o ≡ None → IfSome o Q
none_some o Q e = subst (λ (p : Option _). IfSome p Q) (sym e) tt

pub all_some : {A : Type 0} (o : Option A) (P : Type 0) → P → IfSome o (λ _. P)
all_some None P h = tt
all_some (Some x) P h = h

pub all_err : {A E : Type 0} (r : Result A E) (P : Type 0) → P → OnErr r P
all_err (Ok x) P h = tt
all_err (Err e) P h = h

pub both_ok : {A E : Type 0} (r : Result A E) (P Q R : Type 0) → (P → Q → R) → OnOk r P → OnOk r Q → OnOk r R
both_ok (Ok x) P Q R f h k = f h k
both_ok (Err e) P Q R f h k = tt

pub all_ok : {A E : Type 0} (r : Result A E) (P : Type 0) → P → OnOk r P
all_ok (Ok x) P h = h
all_ok (Err e) P h = tt
