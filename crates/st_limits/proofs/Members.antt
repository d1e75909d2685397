-- what stands in a list of numbers, and what is left without one of them
use Rattle.std.proofs.Common.{◌≡◌, ℕ, true, false, not, List, [], ◌∷◌, eqb, ◌⊎◌, inl, inr, refl, sym, ◌∙◌, ap, subst}
use Rattle.std.proofs.lemmas.Bool.{cases_eq, eq-eqb, ne_eqb, eqb-true, eqb-false, or_cases, or_left, or_right, or_from, or_parts, cond-true, cond-false, false_from_ne_true, false≢true, both_ways}
use Rattle.st_limits.specs.Cache.{has, without, AreDistinct}

pub has_head : (x : ℕ) (xs : List ℕ) → has x (x ∷ xs) ≡ true
has_head x xs = or_left (eqb x x) (has x xs) (eq-eqb x x refl)

pub has_tail : (x y : ℕ) (ys : List ℕ) → has x ys ≡ true → has x (y ∷ ys) ≡ true
has_tail x y ys h = or_right (eqb x y) (has x ys) h

pub has_cases : (x y : ℕ) (ys : List ℕ) → has x (y ∷ ys) ≡ true → (x ≡ y) ⊎ (has x ys ≡ true)
has_cases x y ys h = elim (or_cases (eqb x y) (has x ys) h) [ inl e ↦ inl (eqb-true x y e) | inr t ↦ inr t ]

pub lacks_parts : (x y : ℕ) (ys : List ℕ) → has x (y ∷ ys) ≡ false → (x ≡ y → ⊥) × (has x ys ≡ false)
lacks_parts x y ys h =
    let parts = or_parts (eqb x y) (has x ys) h in
    (eqb-false x y parts.0, parts.1)

pub lacks_from : (x y : ℕ) (ys : List ℕ) → (x ≡ y → ⊥) → has x ys ≡ false → has x (y ∷ ys) ≡ false
lacks_from x y ys ne h = or_from (eqb x y) (has x ys) (ne_eqb x y ne) h

-- two numbers differ where a list has one and lacks the other
pub differ_by_list : (x y : ℕ) (xs : List ℕ) → has x xs ≡ true → has y xs ≡ false → x ≡ y → ⊥
differ_by_list x y xs h gone e = both_ways (has x xs) (ap (λ (z : ℕ). has z xs) e ∙ gone) h

pub without_here : (p : ℕ) (xs : List ℕ) → without p (p ∷ xs) ≡ without p xs
without_here p xs = cond-false (not (eqb p p)) (p ∷ without p xs) (without p xs) (ap not (eq-eqb p p refl))

pub without_there : (p x : ℕ) (xs : List ℕ) → (p ≡ x → ⊥) → without p (x ∷ xs) ≡ x ∷ without p xs
without_there p x xs ne = cond-true (not (eqb p x)) (x ∷ without p xs) (without p xs) (ap not (ne_eqb p x ne))

-- without a number that isn't there the list is the same
pub without_absent : (p : ℕ) (xs : List ℕ) → has p xs ≡ false → without p xs ≡ xs
without_absent p [] gone = refl
without_absent p (x ∷ xs) gone =
    let parts = lacks_parts p x xs gone in
    without_there p x xs parts.0 ∙ ap (λ (ys : List ℕ). x ∷ ys) (without_absent p xs parts.1)

pub has_of_without : (y p : ℕ) (xs : List ℕ) → has y (without p xs) ≡ true → (has y xs ≡ true) × (y ≡ p → ⊥)
has_of_without y p [] h = absurd (false≢true h)
has_of_without y p (x ∷ xs) h =
    elim (cases_eq p x) [
      | inl e ↦
          let rest = has_of_without y p xs (sym (ap (has y) (subst (λ (z : ℕ). without p (z ∷ xs) ≡ without p xs) e (without_here p xs))) ∙ h) in
          (has_tail y x xs rest.0, rest.1)
      | inr ne ↦
          elim (has_cases y x (without p xs) (sym (ap (has y) (without_there p x xs ne)) ∙ h)) [
            | inl same ↦ (or_left (eqb y x) (has y xs) (eq-eqb y x same), (λ (q : y ≡ p). ne (sym q ∙ same)))
            | inr t ↦ let rest = has_of_without y p xs t in (has_tail y x xs rest.0, rest.1)
          ]
    ]

pub has-without : (y p : ℕ) (xs : List ℕ) → has y xs ≡ true → (y ≡ p → ⊥) → has y (without p xs) ≡ true
has-without y p [] h ne = h
has-without y p (x ∷ xs) h ne =
    elim (cases_eq p x) [
      | inl e ↦
          ap (has y) (subst (λ (z : ℕ). without p (z ∷ xs) ≡ without p xs) e (without_here p xs))
          ∙ elim (has_cases y x xs h) [ inl same ↦ absurd (ne (same ∙ sym e)) | inr t ↦ has-without y p xs t ne ]
      | inr other ↦
          ap (has y) (without_there p x xs other)
          ∙ elim (has_cases y x xs h) [
            | inl same ↦ or_left (eqb y x) (has y (without p xs)) (eq-eqb y x same)
            | inr t ↦ has_tail y x (without p xs) (has-without y p xs t ne)
          ]
    ]

pub lacks_itself : (p : ℕ) (xs : List ℕ) → has p (without p xs) ≡ false
lacks_itself p xs = false_from_ne_true _ (λ h. (has_of_without p p xs h).1 refl)

pub lacks-without : (y p : ℕ) (xs : List ℕ) → has y xs ≡ false → has y (without p xs) ≡ false
lacks-without y p xs gone = false_from_ne_true _ (λ h. both_ways (has y xs) gone (has_of_without y p xs h).0)

pub AreDistinct-without : (p : ℕ) (xs : List ℕ) → AreDistinct xs → AreDistinct (without p xs)
AreDistinct-without p [] d = tt
AreDistinct-without p (x ∷ xs) d =
    elim (cases_eq p x) [
      | inl e ↦ subst AreDistinct (sym (subst (λ (z : ℕ). without p (z ∷ xs) ≡ without p xs) e (without_here p xs))) (AreDistinct-without p xs d.1)
      | inr ne ↦ subst AreDistinct (sym (without_there p x xs ne)) (lacks-without x p xs d.0, AreDistinct-without p xs d.1)
    ]
