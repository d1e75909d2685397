-- what follows a node in a ring that is written as a list, its sentinel first
use Rattle.std.proofs.Common.{◌≡◌, ℕ, true, false, List, [], ◌∷◌, ◌++◌, cond, eqb, ◌⊎◌, inl, inr, refl, sym, ◌∙◌, ap, subst}
use Rattle.std.proofs.lemmas.Bool.{cases_eq, eq-eqb, ne_eqb, or_left, cond-true, cond-false, false≢true, both_ways, false_from_ne_true}
use Rattle.st_limits.specs.Cache.{has, without, AreDistinct}
use Rattle.st_links.specs.Ring.{first_or, follower}
use Rattle.st_limits.proofs.Members.{has_head, has_tail, has_cases, lacks_parts, lacks_from, differ_by_list, without_here, without_there, without_absent}

pub follower_here : (d x : ℕ) (xs : List ℕ) → follower d (x ∷ xs) x ≡ first_or d xs
follower_here d x xs = cond-true (eqb x x) (first_or d xs) (follower d xs x) (eq-eqb x x refl)

pub follower_there : (d x y : ℕ) (xs : List ℕ) → (y ≡ x → ⊥) → follower d (x ∷ xs) y ≡ follower d xs y
follower_there d x y xs ne = cond-false (eqb y x) (first_or d xs) (follower d xs y) (ne_eqb y x ne)

pub first_or_in : (d : ℕ) (xs : List ℕ) → (first_or d xs ≡ d) ⊎ (has (first_or d xs) xs ≡ true)
first_or_in d [] = inl refl
first_or_in d (x ∷ xs) = inr (has_head x xs)

pub follower_in : (d y : ℕ) (r : List ℕ) → (follower d r y ≡ d) ⊎ (has (follower d r y) r ≡ true)
follower_in d y [] = inl refl
follower_in d y (x ∷ xs) =
    let P : ℕ → Type 0 = λ (z : ℕ). (z ≡ d) ⊎ (has z (x ∷ xs) ≡ true) in
    elim (cases_eq y x) [
      | inl e ↦
          let here : P (first_or d xs) = elim (first_or_in d xs) as (λ _. P (first_or d xs)) [ inl q ↦ inl q | inr t ↦ inr (has_tail (first_or d xs) x xs t) ] in
          subst P (sym (cond-true (eqb y x) (first_or d xs) (follower d xs y) (eq-eqb y x e))) here
      | inr ne ↦
          let there : P (follower d xs y) = elim (follower_in d y xs) as (λ _. P (follower d xs y)) [ inl q ↦ inl q | inr t ↦ inr (has_tail (follower d xs y) x xs t) ] in
          subst P (sym (follower_there d x y xs ne)) there
    ]

-- nothing but what stands in the list, and d, follows
pub follower_not : (d p y : ℕ) (r : List ℕ) → (p ≡ d → ⊥) → has p r ≡ false → follower d r y ≡ p → ⊥
follower_not d p y r ne lacks e =
    elim (follower_in d y r) [
      | inl q ↦ ne (sym e ∙ q)
      | inr t ↦ both_ways (has p r) lacks (sym (ap (λ (z : ℕ). has z r) e) ∙ t)
    ]

-- p is taken out: what p followed is followed by what followed p
pub follower-without_at : (d p y : ℕ) (r : List ℕ) → AreDistinct r → (p ≡ d → ⊥) → (y ≡ p → ⊥) → has y r ≡ true → follower d r y ≡ p → follower d (without p r) y ≡ follower d r p
follower-without_at d p y [] dist ne yp h e = absurd (false≢true h)
follower-without_at d p y (x ∷ xs) dist ne yp h e =
    elim (cases_eq p x) [
      | inl px ↦
          let lacks : has p xs ≡ false = subst (λ (z : ℕ). has z xs ≡ false) (sym px) dist.0 in
          absurd (follower_not d p y xs ne lacks (sym (follower_there d x y xs (λ (q : y ≡ x). yp (q ∙ sym px))) ∙ e))
      | inr px ↦
          let rest : follower d (x ∷ xs) p ≡ follower d xs p = follower_there d x p xs px in
          let left : follower d (without p (x ∷ xs)) y ≡ follower d (x ∷ without p xs) y = ap (λ (zs : List ℕ). follower d zs y) (without_there p x xs px) in
          elim (cases_eq y x) [
            | inl yx ↦
                let first : first_or d xs ≡ p = sym (cond-true (eqb y x) (first_or d xs) (follower d xs y) (eq-eqb y x yx)) ∙ e in
                left ∙ cond-true (eqb y x) (first_or d (without p xs)) (follower d (without p xs) y) (eq-eqb y x yx) ∙ first_gone d p xs ne dist.1 first ∙ sym rest
            | inr yx ↦
                let t : has y xs ≡ true = elim (has_cases y x xs h) [ inl q ↦ absurd (yx q) | inr t ↦ t ] in
                left ∙ follower_there d x y (without p xs) yx ∙ follower-without_at d p y xs dist.1 ne yp t (sym (follower_there d x y xs yx) ∙ e) ∙ sym rest
          ]
    ]
  where
    first_gone : (d p : ℕ) (xs : List ℕ) → (p ≡ d → ⊥) → AreDistinct xs → first_or d xs ≡ p → first_or d (without p xs) ≡ follower d xs p
    first_gone d p [] ne dist e = absurd (ne (sym e))
    first_gone d p (z ∷ zs) ne dist e =
        let lacks : has p zs ≡ false = subst (λ (w : ℕ). has w zs ≡ false) e dist.0 in
        ap (first_or d) (subst (λ (w : ℕ). without p (w ∷ zs) ≡ without p zs) (sym e) (without_here p zs) ∙ without_absent p zs lacks)
        ∙ sym (cond-true (eqb p z) (first_or d zs) (follower d zs p) (eq-eqb p z (sym e)))

-- and no other place has another follower
pub follower-without : (d p y : ℕ) (r : List ℕ) → AreDistinct r → (y ≡ p → ⊥) → (follower d r y ≡ p → ⊥) → follower d (without p r) y ≡ follower d r y
follower-without d p y [] dist yp ne = refl
follower-without d p y (x ∷ xs) dist yp ne =
    elim (cases_eq p x) [
      | inl px ↦
          let lacks : has p xs ≡ false = subst (λ (z : ℕ). has z xs ≡ false) (sym px) dist.0 in
          ap (λ (zs : List ℕ). follower d zs y) (subst (λ (w : ℕ). without p (w ∷ xs) ≡ without p xs) px (without_here p xs) ∙ without_absent p xs lacks)
          ∙ sym (follower_there d x y xs (λ (q : y ≡ x). yp (q ∙ sym px)))
      | inr px ↦
          let left : follower d (without p (x ∷ xs)) y ≡ follower d (x ∷ without p xs) y = ap (λ (zs : List ℕ). follower d zs y) (without_there p x xs px) in
          elim (cases_eq y x) [
            | inl yx ↦
                let here : follower d (x ∷ xs) y ≡ first_or d xs = cond-true (eqb y x) (first_or d xs) (follower d xs y) (eq-eqb y x yx) in
                left ∙ cond-true (eqb y x) (first_or d (without p xs)) (follower d (without p xs) y) (eq-eqb y x yx) ∙ first_kept d p xs (λ (q : first_or d xs ≡ p). ne (here ∙ q)) ∙ sym here
            | inr yx ↦
                left ∙ follower_there d x y (without p xs) yx ∙ follower-without d p y xs dist.1 yp (λ (q : follower d xs y ≡ p). ne (follower_there d x y xs yx ∙ q)) ∙ sym (follower_there d x y xs yx)
          ]
    ]
  where
    first_kept : (d p : ℕ) (xs : List ℕ) → (first_or d xs ≡ p → ⊥) → first_or d (without p xs) ≡ first_or d xs
    first_kept d p [] ne = refl
    first_kept d p (z ∷ zs) ne = ap (first_or d) (without_there p z zs (λ (q : p ≡ z). ne (sym q)))

-- the list with p put behind a
abbrev pub inserted : ℕ → ℕ → List ℕ → List ℕ
inserted a p [] = []
inserted a p (x ∷ xs) = cond (eqb a x) (x ∷ p ∷ xs) (x ∷ inserted a p xs)

pub inserted_here : (a p x : ℕ) (xs : List ℕ) → a ≡ x → inserted a p (x ∷ xs) ≡ x ∷ p ∷ xs
inserted_here a p x xs e = cond-true (eqb a x) (x ∷ p ∷ xs) (x ∷ inserted a p xs) (eq-eqb a x e)

pub inserted_there : (a p x : ℕ) (xs : List ℕ) → (a ≡ x → ⊥) → inserted a p (x ∷ xs) ≡ x ∷ inserted a p xs
inserted_there a p x xs ne = cond-false (eqb a x) (x ∷ p ∷ xs) (x ∷ inserted a p xs) (ne_eqb a x ne)

first_or-inserted : (d a p : ℕ) (xs : List ℕ) → first_or d (inserted a p xs) ≡ first_or d xs
first_or-inserted d a p [] = refl
first_or-inserted d a p (z ∷ zs) =
    elim (cases_eq a z) [ inl e ↦ ap (first_or d) (inserted_here a p z zs e) | inr ne ↦ ap (first_or d) (inserted_there a p z zs ne) ]

-- a is followed by p
pub follower-inserted_before : (d a p : ℕ) (r : List ℕ) → has a r ≡ true → follower d (inserted a p r) a ≡ p
follower-inserted_before d a p [] h = absurd (false≢true h)
follower-inserted_before d a p (x ∷ xs) h =
    elim (cases_eq a x) [
      | inl e ↦ ap (λ (zs : List ℕ). follower d zs a) (inserted_here a p x xs e) ∙ cond-true (eqb a x) p (follower d (p ∷ xs) a) (eq-eqb a x e)
      | inr ne ↦
          let t : has a xs ≡ true = elim (has_cases a x xs h) [ inl q ↦ absurd (ne q) | inr t ↦ t ] in
          ap (λ (zs : List ℕ). follower d zs a) (inserted_there a p x xs ne) ∙ follower_there d x a (inserted a p xs) ne ∙ follower-inserted_before d a p xs t
    ]

-- p is followed by what followed a
pub follower-inserted_at : (d a p : ℕ) (r : List ℕ) → has a r ≡ true → has p r ≡ false → follower d (inserted a p r) p ≡ follower d r a
follower-inserted_at d a p [] h lacks = absurd (false≢true h)
follower-inserted_at d a p (x ∷ xs) h lacks =
    let parts = lacks_parts p x xs lacks in
    elim (cases_eq a x) [
      | inl e ↦
          ap (λ (zs : List ℕ). follower d zs p) (inserted_here a p x xs e)
          ∙ follower_there d x p (p ∷ xs) parts.0
          ∙ follower_here d p xs
          ∙ sym (cond-true (eqb a x) (first_or d xs) (follower d xs a) (eq-eqb a x e))
      | inr ne ↦
          let t : has a xs ≡ true = elim (has_cases a x xs h) [ inl q ↦ absurd (ne q) | inr t ↦ t ] in
          ap (λ (zs : List ℕ). follower d zs p) (inserted_there a p x xs ne)
          ∙ follower_there d x p (inserted a p xs) parts.0
          ∙ follower-inserted_at d a p xs t parts.1
          ∙ sym (follower_there d x a xs ne)
    ]

-- every other place has its follower
pub follower-inserted : (d a p y : ℕ) (r : List ℕ) → (y ≡ a → ⊥) → (y ≡ p → ⊥) → follower d (inserted a p r) y ≡ follower d r y
follower-inserted d a p y [] ya yp = refl
follower-inserted d a p y (x ∷ xs) ya yp =
    elim (cases_eq a x) [
      | inl e ↦
          let yx : y ≡ x → ⊥ = λ (q : y ≡ x). ya (q ∙ sym e) in
          ap (λ (zs : List ℕ). follower d zs y) (inserted_here a p x xs e)
          ∙ follower_there d x y (p ∷ xs) yx
          ∙ follower_there d p y xs yp
          ∙ sym (follower_there d x y xs yx)
      | inr ne ↦
          let left = ap (λ (zs : List ℕ). follower d zs y) (inserted_there a p x xs ne) in
          elim (cases_eq y x) [
            | inl yx ↦
                left
                ∙ cond-true (eqb y x) (first_or d (inserted a p xs)) (follower d (inserted a p xs) y) (eq-eqb y x yx)
                ∙ first_or-inserted d a p xs
                ∙ sym (cond-true (eqb y x) (first_or d xs) (follower d xs y) (eq-eqb y x yx))
            | inr yx ↦
                left ∙ follower_there d x y (inserted a p xs) yx ∙ follower-inserted d a p y xs ya yp ∙ sym (follower_there d x y xs yx)
          ]
    ]

pub has_of_inserted : (a p y : ℕ) (r : List ℕ) → has y (inserted a p r) ≡ true → (y ≡ p) ⊎ (has y r ≡ true)
has_of_inserted a p y [] h = inr h
has_of_inserted a p y (x ∷ xs) h =
    elim (cases_eq a x) [
      | inl e ↦
          elim (has_cases y x (p ∷ xs) (sym (ap (has y) (inserted_here a p x xs e)) ∙ h)) [
            | inl q ↦ inr (or_left (eqb y x) (has y xs) (eq-eqb y x q))
            | inr t ↦ elim (has_cases y p xs t) [ inl q ↦ inl q | inr s ↦ inr (has_tail y x xs s) ]
          ]
      | inr ne ↦
          elim (has_cases y x (inserted a p xs) (sym (ap (has y) (inserted_there a p x xs ne)) ∙ h)) [
            | inl q ↦ inr (or_left (eqb y x) (has y xs) (eq-eqb y x q))
            | inr t ↦ elim (has_of_inserted a p y xs t) [ inl q ↦ inl q | inr s ↦ inr (has_tail y x xs s) ]
          ]
    ]

pub AreDistinct-inserted : (a p : ℕ) (r : List ℕ) → AreDistinct r → has p r ≡ false → AreDistinct (inserted a p r)
AreDistinct-inserted a p [] dist lacks = tt
AreDistinct-inserted a p (x ∷ xs) dist lacks =
    let parts = lacks_parts p x xs lacks in
    let xp : x ≡ p → ⊥ = λ (q : x ≡ p). parts.0 (sym q) in
    elim (cases_eq a x) [
      | inl e ↦ subst AreDistinct (sym (inserted_here a p x xs e)) (lacks_from x p xs xp dist.0, (parts.1, dist.1))
      | inr ne ↦
          let front : has x (inserted a p xs) ≡ false =
          false_from_ne_true (has x (inserted a p xs))
          (λ (h : has x (inserted a p xs) ≡ true). elim (has_of_inserted a p x xs h) [ inl q ↦ xp q | inr t ↦ both_ways (has x xs) dist.0 t ]) in
          subst AreDistinct (sym (inserted_there a p x xs ne)) (front, AreDistinct-inserted a p xs dist.1 parts.1)
    ]

-- the last of a ring
abbrev pub last_from : ℕ → List ℕ → ℕ
last_from x [] = x
last_from x (y ∷ ys) = last_from y ys

pub last_from_in : (x : ℕ) (xs : List ℕ) → has (last_from x xs) (x ∷ xs) ≡ true
last_from_in x [] = has_head x []
last_from_in x (y ∷ ys) = has_tail (last_from y ys) x (y ∷ ys) (last_from_in y ys)

pub follower-last : (d x : ℕ) (xs : List ℕ) → AreDistinct (x ∷ xs) → follower d (x ∷ xs) (last_from x xs) ≡ d
follower-last d x [] dist = follower_here d x []
follower-last d x (y ∷ ys) dist =
    follower_there d x (last_from y ys) (y ∷ ys) (differ_by_list (last_from y ys) x (y ∷ ys) (last_from_in y ys) dist.0) ∙ follower-last d y ys dist.1

pub inserted-last : (x p : ℕ) (xs : List ℕ) → AreDistinct (x ∷ xs) → inserted (last_from x xs) p (x ∷ xs) ≡ x ∷ (xs ++ p ∷ [])
inserted-last x p [] dist = inserted_here x p x [] refl
inserted-last x p (y ∷ ys) dist =
    inserted_there (last_from y ys) p x (y ∷ ys) (differ_by_list (last_from y ys) x (y ∷ ys) (last_from_in y ys) dist.0) ∙ ap (λ (zs : List ℕ). x ∷ zs) (inserted-last y p ys dist.1)

-- what stands before p, or x before the first
abbrev pub leader : ℕ → ℕ → List ℕ → ℕ
leader x p [] = x
leader x p (y ∷ ys) = cond (eqb p y) x (leader y p ys)

pub leader_in : (x p : ℕ) (xs : List ℕ) → has (leader x p xs) (x ∷ xs) ≡ true
leader_in x p [] = has_head x []
leader_in x p (y ∷ ys) =
    let P : ℕ → Type 0 = λ (z : ℕ). has z (x ∷ y ∷ ys) ≡ true in
    elim (cases_eq p y) [
      | inl e ↦ subst P (sym (cond-true (eqb p y) x (leader y p ys) (eq-eqb p y e))) (has_head x (y ∷ ys))
      | inr ne ↦ subst P (sym (cond-false (eqb p y) x (leader y p ys) (ne_eqb p y ne))) (has_tail (leader y p ys) x (y ∷ ys) (leader_in y p ys))
    ]

pub follower-leader : (d x p : ℕ) (xs : List ℕ) → AreDistinct (x ∷ xs) → has p xs ≡ true → follower d (x ∷ xs) (leader x p xs) ≡ p
follower-leader d x p [] dist h = absurd (false≢true h)
follower-leader d x p (y ∷ ys) dist h =
    elim (cases_eq p y) [
      | inl e ↦ ap (follower d (x ∷ y ∷ ys)) (cond-true (eqb p y) x (leader y p ys) (eq-eqb p y e)) ∙ follower_here d x (y ∷ ys) ∙ sym e
      | inr ne ↦
          let t : has p ys ≡ true = elim (has_cases p y ys h) [ inl q ↦ absurd (ne q) | inr t ↦ t ] in
          ap (follower d (x ∷ y ∷ ys)) (cond-false (eqb p y) x (leader y p ys) (ne_eqb p y ne))
          ∙ follower_there d x (leader y p ys) (y ∷ ys) (differ_by_list (leader y p ys) x (y ∷ ys) (leader_in y p ys) dist.0)
          ∙ follower-leader d y p ys dist.1 t
    ]
