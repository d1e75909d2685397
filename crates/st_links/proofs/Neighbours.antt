-- what a read of the arrays says of the lists
use Rattle.std.proofs.Common.{◌≡◌, ℕ, zero, suc, ◌+◌, ◌<◌, ◌≤◌, true, false, List, [], ◌∷◌, length, get_or, eqb, ltb, Option, Some, None, inl, inr, refl, sym, ◌∙◌, ap, arith}
use Rattle.std.specs.List.{slice_get}
use Rattle.std.proofs.lemmas.Bool.{cases_eq, both_ways, eq-eqb, ne_eqb, cond-true, cond-false, false≢true, false_from_ne_true, lt-ltb, le-ltb}
use Rattle.st_limits.specs.Cache.{has}
use Rattle.st_limits.proofs.Members.{has_head, has_tail, has_cases, differ_by_list}
use Rattle.st_links.specs.Arena.{row, is_linked, first_of, last_of, after, before_from, before, next_of, prev_of}
use Rattle.st_links.specs.Ring.{first_or, follower, as_place, Tied}
use Rattle.st_links.proofs.Follow.{follower_there, leader, last_from}
use Rattle.st_links.proofs.Rings.{first_is, last_is, prev_is}
use Rattle.st_links.proofs.Moves.{linked_in, linked_from, lacks_in, lacks_other}
use Rattle.st_links.proofs.Ties.{home_of}

place_below : (n y : ℕ) → y < n → as_place n y ≡ Some y
place_below n y h = cond-true (ltb y n) (Some y) None (lt-ltb y n h)

place_past : (n y : ℕ) → n ≤ y → as_place n y ≡ None
place_past n y h = cond-false (ltb y n) (Some y) None (le-ltb y n h)

first_place : (n d : ℕ) (xs : List ℕ) → n ≤ d → ((y : ℕ) → has y xs ≡ true → y < n) → as_place n (first_or d xs) ≡ first_of xs
first_place n d [] past small = place_past n d past
first_place n d (x ∷ xs) past small = place_below n x (small x (has_head x xs))

last_place : (n y : ℕ) (ys : List ℕ) → ((z : ℕ) → has z (y ∷ ys) ≡ true → z < n) → as_place n (last_from y ys) ≡ slice_get (y ∷ ys) (length ys)
last_place n y [] small = place_below n y (small y (has_head y []))
last_place n y (z ∷ zs) small = last_place n z zs (λ (w : ℕ) (h : has w (z ∷ zs) ≡ true). small w (has_tail w y (z ∷ zs) h))

last_place_of : (n d : ℕ) (xs : List ℕ) → n ≤ d → ((y : ℕ) → has y xs ≡ true → y < n) → as_place n (last_from d xs) ≡ last_of xs
last_place_of n d [] past small = place_past n d past
last_place_of n d (x ∷ xs) past small = last_place n x xs small ∙ ap (slice_get (x ∷ xs)) (omega arith)

after_place : (n d p : ℕ) (xs : List ℕ) → n ≤ d → ((y : ℕ) → has y xs ≡ true → y < n) → has p xs ≡ true → as_place n (follower d xs p) ≡ after p xs
after_place n d p [] past small h = absurd (false≢true h)
after_place n d p (x ∷ xs) past small h =
    let small' : (y : ℕ) → has y xs ≡ true → y < n = λ (y : ℕ) (t : has y xs ≡ true). small y (has_tail y x xs t) in
    elim (cases_eq p x) [
      | inl e ↦
          ap (as_place n) (cond-true (eqb p x) (first_or d xs) (follower d xs p) (eq-eqb p x e))
          ∙ first_place n d xs past small'
          ∙ sym (cond-true (eqb p x) (first_of xs) (after p xs) (eq-eqb p x e))
      | inr ne ↦
          let t : has p xs ≡ true = elim (has_cases p x xs h) [ inl q ↦ absurd (ne q) | inr t ↦ t ] in
          ap (as_place n) (follower_there d x p xs ne)
          ∙ after_place n d p xs past small' t
          ∙ sym (cond-false (eqb p x) (first_of xs) (after p xs) (ne_eqb p x ne))
    ]

before_place : (n x p : ℕ) (xs : List ℕ) → ((y : ℕ) → has y xs ≡ true → y < n) → has p xs ≡ true → as_place n (leader x p xs) ≡ before_from (as_place n x) p xs
before_place n x p [] small h = absurd (false≢true h)
before_place n x p (y ∷ ys) small h =
    elim (cases_eq p y) [
      | inl e ↦
          ap (as_place n) (cond-true (eqb p y) x (leader y p ys) (eq-eqb p y e))
          ∙ sym (cond-true (eqb p y) (as_place n x) (before_from (Some y) p ys) (eq-eqb p y e))
      | inr ne ↦
          let t : has p ys ≡ true = elim (has_cases p y ys h) [ inl q ↦ absurd (ne q) | inr t ↦ t ] in
          ap (as_place n) (cond-false (eqb p y) x (leader y p ys) (ne_eqb p y ne))
          ∙ before_place n y p ys (λ (z : ℕ) (s : has z ys ≡ true). small z (has_tail z y ys s)) t
          ∙ ap (λ (o : Option ℕ). before_from o p ys) (place_below n y (small y (has_head y ys)))
          ∙ sym (cond-false (eqb p y) (as_place n x) (before_from (Some y) p ys) (ne_eqb p y ne))
    ]

-- a search over the lists ends at the one that has the place
pub next_of_at : (lists : List (List ℕ)) (p l : ℕ) → has p (row lists l) ≡ true → ((k : ℕ) → k < l → has p (row lists k) ≡ false) → next_of lists p ≡ after p (row lists l)
next_of_at [] p l h first = absurd (false≢true h)
next_of_at (xs ∷ lists) p zero h first = cond-true (has p xs) (after p xs) (next_of lists p) h
next_of_at (xs ∷ lists) p (suc l) h first =
    cond-false (has p xs) (after p xs) (next_of lists p) (first 0 (omega arith))
    ∙ next_of_at lists p l h (λ (k : ℕ) (below : k < l). first (suc k) (omega arith))

prev_of_at : (lists : List (List ℕ)) (p l : ℕ) → has p (row lists l) ≡ true → ((k : ℕ) → k < l → has p (row lists k) ≡ false) → prev_of lists p ≡ before p (row lists l)
prev_of_at [] p l h first = absurd (false≢true h)
prev_of_at (xs ∷ lists) p zero h first = cond-true (has p xs) (before p xs) (prev_of lists p) h
prev_of_at (xs ∷ lists) p (suc l) h first =
    cond-false (has p xs) (before p xs) (prev_of lists p) (first 0 (omega arith))
    ∙ prev_of_at lists p l h (λ (k : ℕ) (below : k < l). first (suc k) (omega arith))

free_rest : (xs : List ℕ) (lists : List (List ℕ)) (p : ℕ) → is_linked (xs ∷ lists) p ≡ false → is_linked lists p ≡ false
free_rest xs lists p free =
    false_from_ne_true (is_linked lists p)
    (λ (h : is_linked lists p ≡ true). let at = linked_in lists p h in both_ways (has p (row lists at.0)) (lacks_in (xs ∷ lists) p free (suc at.0)) at.2)

-- a place in no list has no neighbour
pub next_of_none : (lists : List (List ℕ)) (p : ℕ) → is_linked lists p ≡ false → next_of lists p ≡ None
next_of_none [] p free = refl
next_of_none (xs ∷ lists) p free =
    cond-false (has p xs) (after p xs) (next_of lists p) (lacks_in (xs ∷ lists) p free 0) ∙ next_of_none lists p (free_rest xs lists p free)

pub prev_of_none : (lists : List (List ℕ)) (p : ℕ) → is_linked lists p ≡ false → prev_of lists p ≡ None
prev_of_none [] p free = refl
prev_of_none (xs ∷ lists) p free =
    cond-false (has p xs) (before p xs) (prev_of lists p) (lacks_in (xs ∷ lists) p free 0) ∙ prev_of_none lists p (free_rest xs lists p free)

module _ {nx pv hm : List ℕ} {n count : ℕ} {lists : List (List ℕ)} where
  pub first_read : Tied nx pv hm n count lists → (l : ℕ) → l < count → as_place n (get_or nx (n + l) 0) ≡ first_of (row lists l)
  first_read tied l below =
      ap (as_place n) (first_is (tied.linked.rings l below))
      ∙ first_place n (n + l) (row lists l) (omega arith) (λ (y : ℕ) (h : has y (row lists l) ≡ true). tied.linked.small l y below h)

  pub last_read : Tied nx pv hm n count lists → (l : ℕ) → l < count → as_place n (get_or pv (n + l) 0) ≡ last_of (row lists l)
  last_read tied l below =
      ap (as_place n) (last_is (tied.linked.rings l below))
      ∙ last_place_of n (n + l) (row lists l) (omega arith) (λ (y : ℕ) (h : has y (row lists l) ≡ true). tied.linked.small l y below h)

  -- whether a place is linked, by the list that it names
  pub linked_read : Tied nx pv hm n count lists → (p : ℕ) → p < n → get_or hm p 0 < count → is_linked lists p ≡ true
  linked_read tied p bp home = linked_from lists p (get_or hm p 0) (tied.held p bp home)

  pub free_read : Tied nx pv hm n count lists → (p : ℕ) → (p < n → get_or hm p 0 < count → ⊥) → is_linked lists p ≡ false
  free_read tied p outside =
      false_from_ne_true (is_linked lists p) (λ (h : is_linked lists p ≡ true). let at = home_of tied p h in outside at.0 at.1)

  pub next_read : Tied nx pv hm n count lists → (p : ℕ) → is_linked lists p ≡ true → as_place n (get_or nx p 0) ≡ next_of lists p
  next_read tied p h =
      let at = home_of tied p h in
      let l : ℕ = get_or hm p 0 in
      let xs : List ℕ = row lists l in
      let ring = tied.linked.rings l at.1 in
      ap (as_place n) (ring.forth p (has_tail p (n + l) xs at.2) ∙ follower_there (n + l) (n + l) p xs (differ_by_list p (n + l) xs at.2 ring.once.0))
      ∙ after_place n (n + l) p xs (omega arith) (λ (y : ℕ) (t : has y xs ≡ true). tied.linked.small l y at.1 t) at.2
      ∙ sym (next_of_at lists p l at.2 (λ (k : ℕ) (below : k < l). lacks_other tied.linked p k l (omega (arith, at.1)) at.1 at.2 (λ (q : k ≡ l). absurd (omega arith))))

  pub prev_read : Tied nx pv hm n count lists → (p : ℕ) → is_linked lists p ≡ true → as_place n (get_or pv p 0) ≡ prev_of lists p
  prev_read tied p h =
      let at = home_of tied p h in
      let l : ℕ = get_or hm p 0 in
      let xs : List ℕ = row lists l in
      ap (as_place n) (prev_is (tied.linked.rings l at.1) p at.2)
      ∙ before_place n (n + l) p xs (λ (y : ℕ) (t : has y xs ≡ true). tied.linked.small l y at.1 t) at.2
      ∙ ap (λ (o : Option ℕ). before_from o p xs) (place_past n (n + l) (omega arith))
      ∙ sym (prev_of_at lists p l at.2 (λ (k : ℕ) (below : k < l). lacks_other tied.linked p k l (omega (arith, at.1)) at.1 at.2 (λ (q : k ≡ l). absurd (omega arith))))
