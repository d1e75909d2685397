-- Devices come to a shelf.
use Rattle.std.proofs.Common.{◌≡◌, inl, inr, ℕ, zero, suc, ◌+◌, ◌<◌, ◌≤◌, Bool, true, false, cond, List, [], ◌∷◌, ◌++◌, length, get_or, insert, refl, sym, ◌∙◌, ap, subst, arith}
use Rattle.std.specs.Str.{bytes_eq}
use Rattle.std.proofs.lemmas.Bool.{cases_Bool}
use Rattle.std.proofs.lemmas.Slice.Eq.{bytes_eq-Decides}
use Rattle.st_rack.specs.Device.{Path}
use Rattle.st_rack.specs.Calls.{Rises}
use Rattle.st_shelf.specs.Shelf.{comes_before, look, rows_of, is_in, insert_in, join_in}
use Rattle.st_shelf.proofs.Order.{Below, paths, rises_first, rises_rest, rises_more, rises_none, less_apart, before_less, not_before, below_below}
use Rattle.st_shelf.proofs.Look.{bytes_eq-sym, equal}

module _ {D : Type 0} (path : D → Path) where
  -- the place after all that come before
  pub insert-place : (l : List D) (i : ℕ) (d e : D) → i ≤ length l → ((k : ℕ) → k < i → comes_before (path (get_or l k e)) (path d) ≡ true)
      → (i < length l → comes_before (path (get_or l i e)) (path d) ≡ false) → insert l i d ≡ insert_in path d l
  insert-place [] zero d e le before after = refl
  insert-place [] (suc i) d e le before after = absurd (omega arith)
  insert-place (x ∷ l) zero d e le before after = sym (ap (λ (b : Bool). cond b (x ∷ insert_in path d l) (d ∷ x ∷ l)) (after (omega arith)))
  insert-place (x ∷ l) (suc i) d e le before after =
      ap (λ (m : List D). x ∷ m) (insert-place l i d e (omega arith) (λ k less. before (suc k) (omega arith)) (λ lt. after (omega arith)))
      ∙ sym (ap (λ (b : Bool). cond b (x ∷ insert_in path d l) (d ∷ x ∷ l)) (before 0 (omega arith)))

  pub length-insert_in : (d : D) (l : List D) → length (insert_in path d l) ≡ length l + 1
  length-insert_in d [] = refl
  length-insert_in d (x ∷ l) = elim (comes_before (path x) (path d)) as (λ b. length (cond b (x ∷ insert_in path d l) (d ∷ x ∷ l)) ≡ length (x ∷ l) + 1) [
    | true ↦ omega (arith, length-insert_in d l)
    | false ↦ omega arith
  ]

  pub length-join_in : (l os : List D) → length (join_in path l os) ≡ length l + length os
  length-join_in l [] = omega arith
  length-join_in l (o ∷ os) = omega (arith, length-insert_in o (join_in path l os), length-join_in l os)

  -- the last of the others goes first
  pub join-last : (l os : List D) (o : D) → join_in path l (os ++ o ∷ []) ≡ join_in path (insert_in path o l) os
  join-last l [] o = refl
  join-last l (x ∷ os) o = ap (λ (m : List D). insert_in path x m) (join-last l os o)

  module _ {A : Type 0} (f : D → A) (none : A) where
    swap : (b c : Bool) (x y z : A) → (b ≡ true → c ≡ false) → cond b x (cond c y z) ≡ cond c y (cond b x z)
    swap true true x y z only = absurd (let e = only refl in cc)
    swap true false x y z only = refl
    swap false true x y z only = refl
    swap false false x y z only = refl

    pub look-insert_in : (d : D) (l : List D) (p : Path) → look path f none (insert_in path d l) p ≡ cond (bytes_eq (path d) p) (f d) (look path f none l p)
    look-insert_in d [] p = refl
    look-insert_in d (x ∷ l) p = elim (cases_Bool (comes_before (path x) (path d))) [
      | inl before ↦
          ap (λ (b : Bool). look path f none (cond b (x ∷ insert_in path d l) (d ∷ x ∷ l)) p) before
          ∙ ap (λ (y : A). cond (bytes_eq (path x) p) (f x) y) (look-insert_in d l p)
          ∙ swap (bytes_eq (path x) p) (bytes_eq (path d) p) (f x) (f d) (look path f none l p) (λ hit. apart before hit)
      | inr after ↦ ap (λ (b : Bool). look path f none (cond b (x ∷ insert_in path d l) (d ∷ x ∷ l)) p) after
    ]
      where
        apart : comes_before (path x) (path d) ≡ true → bytes_eq (path x) p ≡ true → bytes_eq (path d) p ≡ false
        apart before hit =
            let same : path x ≡ p = (bytes_eq-Decides (path x) p).0 hit in
            bytes_eq-sym p (path d) (subst (λ (y : Path). bytes_eq y (path d) ≡ false) same (less_apart (path x) (path d) (before_less (path x) (path d) before)))

    pub look-join_in : (l os : List D) (p : Path) → look path f none (join_in path l os) p ≡ cond (is_in path os p) (look path f none os p) (look path f none l p)
    look-join_in l [] p = refl
    look-join_in l (o ∷ os) p =
        look-insert_in o (join_in path l os) p
        ∙ ap (λ (y : A). cond (bytes_eq (path o) p) (f o) y) (look-join_in l os p)
        ∙ shape (bytes_eq (path o) p) (is_in path os p) (f o) (look path f none os p) (look path f none l p)
      where
        shape : (b c : Bool) (x y z : A) → cond b x (cond c y z) ≡ cond (cond b true c) (cond b x y) z
        shape true c x y z = refl
        shape false c x y z = refl

  module _ (size : D → ℕ) where
    below-insert : (p : Path) (d : D) (l : List D) → Below p (path d ∷ []) → Below p (paths path size l) → Below p (paths path size (insert_in path d l))
    below-insert p d [] one h = one
    below-insert p d (x ∷ l) one h = elim (comes_before (path x) (path d)) as (λ b. Below p (paths path size (cond b (x ∷ insert_in path d l) (d ∷ x ∷ l)))) [
      | true ↦ (h.0, below-insert p d l one h.1)
      | false ↦ (one.0, h)
    ]

    pub rises-insert : (d : D) (l : List D) → is_in path l (path d) ≡ false → Rises (rows_of path size l) → Rises (rows_of path size (insert_in path d l))
    rises-insert d [] out h = rises_more path size d [] tt (rises_none path size)
    rises-insert d (x ∷ l) out h = elim (cases_Bool (comes_before (path x) (path d))) [
      | inl before ↦
          subst (λ (b : Bool). Rises (rows_of path size (cond b (x ∷ insert_in path d l) (d ∷ x ∷ l)))) (sym before)
          (rises_more path size x (insert_in path d l) (below-insert (path x) d l (before_less (path x) (path d) before, tt) (rises_first path size x l h)) (rises-insert d l rest_out (rises_rest path size x l h)))
      | inr after ↦
          let less = not_before (path x) (path d) after apart in
          subst (λ (b : Bool). Rises (rows_of path size (cond b (x ∷ insert_in path d l) (d ∷ x ∷ l)))) (sym after)
          (rises_more path size d (x ∷ l) (less, below_below (path d) (path x) (paths path size l) less (rises_first path size x l h)) h)
    ]
      where
        apart_if : (b c : Bool) → cond b true c ≡ false → b ≡ false
        apart_if true c e = absurd cc
        apart_if false c e = refl

        rest_if : (b c : Bool) → cond b true c ≡ false → c ≡ false
        rest_if true c e = absurd cc
        rest_if false c e = e

        apart : bytes_eq (path x) (path d) ≡ false
        apart = apart_if (bytes_eq (path x) (path d)) (is_in path l (path d)) out

        rest_out : is_in path l (path d) ≡ false
        rest_out = rest_if (bytes_eq (path x) (path d)) (is_in path l (path d)) out

    not_below : (p : Path) (l : List D) → Below p (paths path size l) → is_in path l p ≡ false
    not_below p [] h = refl
    not_below p (x ∷ l) h = ap (λ (b : Bool). cond b true (is_in path l p)) (bytes_eq-sym p (path x) (less_apart p (path x) h.0)) ∙ not_below p l h.1

    pub rises-join : (l os : List D) → Rises (rows_of path size l) → Rises (rows_of path size os) → ((p : Path) → is_in path os p ≡ true → is_in path l p ≡ false) → Rises (rows_of path size (join_in path l os))
    rises-join l [] own others apart = own
    rises-join l (o ∷ os) own others apart =
        rises-insert o (join_in path l os)
        (look-join_in (λ d. true) false l os (path o)
        ∙ ap (λ (b : Bool). cond b (is_in path os (path o)) (is_in path l (path o))) (not_below (path o) os (rises_first path size o os others))
        ∙ apart (path o) (ap (λ (b : Bool). cond b true (is_in path os (path o))) (equal (path o) (path o) refl)))
        (rises-join l os own (rises_rest path size o os others) (λ p there. apart p (or_in (bytes_eq (path o) p) (is_in path os p) there)))
      where
        or_in : (b c : Bool) → c ≡ true → cond b true c ≡ true
        or_in true c h = refl
        or_in false c h = h
