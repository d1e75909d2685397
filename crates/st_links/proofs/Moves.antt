-- what taking a place out of its list and putting it into one does to all lists
use Rattle.std.proofs.Common.{◌≡◌, ℕ, zero, suc, ◌+◌, ◌<◌, true, false, List, [], ◌∷◌, length, get_or, set, inl, inr, refl, sym, ◌∙◌, ap, subst, arith}
use Rattle.std.proofs.Math.ListN.{get_or-map}
use Rattle.std.proofs.lemmas.Bool.{cases_eq, both_ways, or_cases, or_left, or_right, false≢true, false_from_ne_true}
use Rattle.std.proofs.lemmas.List.{get_or-set_other, get_or-set_same, length-set, length-map}
use Rattle.st_limits.specs.Cache.{has, without, promoted}
use Rattle.st_limits.proofs.Members.{has_tail, has_cases, lacks_from, has_of_without, without_absent}
use Rattle.st_links.specs.Arena.{row, is_linked, unlinked, fronted}
use Rattle.st_links.specs.Ring.{Ring, Linked, put_next, put_prev}
use Rattle.st_links.proofs.Follow.{inserted, has_of_inserted}
use Rattle.st_links.proofs.Rings.{in_different, taken_out, kept_out, put_in, kept_in, homed}

-- a place that is linked stands in a list of some number
pub linked_in : (lists : List (List ℕ)) (p : ℕ) → is_linked lists p ≡ true → (l : ℕ) × (l < length lists) × (has p (row lists l) ≡ true)
linked_in [] p h = absurd (false≢true h)
linked_in (xs ∷ lists) p h =
    elim (or_cases (has p xs) (is_linked lists p) h) [
      | inl t ↦ (0, omega arith, t)
      | inr t ↦ let rest = linked_in lists p t in (suc rest.0, omega (arith, rest.1), rest.2)
    ]

pub linked_from : (lists : List (List ℕ)) (p l : ℕ) → has p (row lists l) ≡ true → is_linked lists p ≡ true
linked_from [] p l h = absurd (false≢true h)
linked_from (xs ∷ lists) p zero h = or_left (has p xs) (is_linked lists p) h
linked_from (xs ∷ lists) p (suc l) h = or_right (has p xs) (is_linked lists p) (linked_from lists p l h)

pub lacks_in : (lists : List (List ℕ)) (p : ℕ) → is_linked lists p ≡ false → (l : ℕ) → has p (row lists l) ≡ false
lacks_in lists p h l = false_from_ne_true (has p (row lists l)) (λ (t : has p (row lists l) ≡ true). both_ways (is_linked lists p) h (linked_from lists p l t))

pub row-unlinked : (lists : List (List ℕ)) (p l : ℕ) → row (unlinked lists p) l ≡ without p (row lists l)
row-unlinked lists p l = get_or-map (without p) lists l []

pub row-fronted : (lists : List (List ℕ)) (p l : ℕ) → row (fronted lists p) l ≡ promoted p (row lists l)
row-fronted lists p l = get_or-map (promoted p) lists l []

-- a place stands in no ring where it stands in no list
lacks_ring : (n : ℕ) (lists : List (List ℕ)) (p k : ℕ) → p < n → has p (row lists k) ≡ false → has p ((n + k) ∷ row lists k) ≡ false
lacks_ring n lists p k below lacks = lacks_from p (n + k) (row lists k) (λ (q : p ≡ n + k). absurd (omega arith)) lacks

module _ {nx pv hm : List ℕ} {n count : ℕ} {lists : List (List ℕ)} where
  -- a list that another one has the place of lacks it
  pub lacks_other : Linked nx pv hm n count lists → (p k l : ℕ) → k < count → l < count → has p (row lists l) ≡ true → (k ≡ l → ⊥) → has p (row lists k) ≡ false
  lacks_other linked p k l bk bl h ne =
      false_from_ne_true (has p (row lists k))
      (λ (t : has p (row lists k) ≡ true).
      in_different (linked.rings k bk) (linked.rings l bl) ne p (has_tail p (n + k) (row lists k) t) p (has_tail p (n + l) (row lists l) h) refl)

  pub out : Linked nx pv hm n count lists → (p l : ℕ) → l < count → has p (row lists l) ≡ true → Linked (set nx (get_or pv p 0) (get_or nx p 0)) (set pv (get_or nx p 0) (get_or pv p 0)) hm n count (unlinked lists p)
  out linked p l below h =
      let nx' : List ℕ = set nx (get_or pv p 0) (get_or nx p 0) in
      let pv' : List ℕ = set pv (get_or nx p 0) (get_or pv p 0) in
      let RingOf : ℕ → List ℕ → Type 0 = λ (k : ℕ) (xs : List ℕ). Ring nx' pv' hm (n + count) k (n + k) xs in
      record {
        long_next = linked.long_next ∙ sym (length-set nx (get_or pv p 0) (get_or nx p 0));
        long_prev = linked.long_prev ∙ sym (length-set pv (get_or nx p 0) (get_or pv p 0));
        long_home = linked.long_home;
        counted = length-map lists (without p) ∙ linked.counted;
        rings = λ (k : ℕ) (bk : k < count).
            subst (RingOf k) (sym (row-unlinked lists p k))
            (elim (cases_eq k l) [
              | inl e ↦
                  taken_out (linked.rings k bk) linked.long_next linked.long_prev p (ap (λ (i : ℕ). has p (row lists i)) e ∙ h)
              | inr ne ↦
                  subst (RingOf k) (sym (without_absent p (row lists k) (lacks_other linked p k l bk below h ne)))
                  (kept_out (linked.rings k bk) l (row lists l) (linked.rings l below) ne p h)
            ]);
        small = λ (k y : ℕ) (bk : k < count) (t : has y (row (unlinked lists p) k) ≡ true).
            linked.small k y bk (has_of_without y p (row lists k) (sym (ap (has y) (row-unlinked lists p k)) ∙ t)).0;
      }

  pub rehomed : Linked nx pv hm n count lists → (p v : ℕ) → p < n → ((k : ℕ) → has p (row lists k) ≡ false) → Linked nx pv (set hm p v) n count lists
  rehomed linked p v below lacks = record {
    long_next = linked.long_next;
    long_prev = linked.long_prev;
    long_home = linked.long_home ∙ sym (length-set hm p v);
    counted = linked.counted;
    rings = λ (k : ℕ) (bk : k < count). homed (linked.rings k bk) p v (lacks_ring n lists p k below (lacks k));
    small = linked.small;
  }

  -- a place that stands in no list is put behind node a of list l, which then is ys
  pub into : Linked nx pv hm n count lists → (a p l : ℕ) (ys : List ℕ) → l < count → has a ((n + l) ∷ row lists l) ≡ true → p < n → ((k : ℕ) → has p (row lists k) ≡ false) → get_or hm p 0 ≡ l → inserted a p ((n + l) ∷ row lists l) ≡ (n + l) ∷ ys → Linked (put_next nx a p) (put_prev nx pv a p) hm n count (set lists l ys)
  into linked a p l ys below ha bp lacks home ring_is =
      let RingOf : ℕ → List ℕ → Type 0 = λ (k : ℕ) (xs : List ℕ). Ring (put_next nx a p) (put_prev nx pv a p) hm (n + count) k (n + k) xs in
      let ring = linked.rings l below in
      let row_same : row (set lists l ys) l ≡ ys = get_or-set_same lists l ys [] (subst (λ (i : ℕ). l < i) (sym linked.counted) below) in
      let row_other : (k : ℕ) → (k ≡ l → ⊥) → row (set lists l ys) k ≡ row lists k = λ (k : ℕ) (ne : k ≡ l → ⊥). get_or-set_other lists l k ys [] ne in
      let new_ring : RingOf l ys = put_in ring linked.long_next linked.long_prev a p ys ha (lacks_ring n lists p l bp (lacks l)) (omega arith) home ring_is in
      record {
        long_next = linked.long_next ∙ sym (length-set nx p (get_or nx a 0)) ∙ sym (length-set (set nx p (get_or nx a 0)) a p);
        long_prev = linked.long_prev ∙ sym (length-set pv p a) ∙ sym (length-set (set pv p a) (get_or nx a 0) p);
        long_home = linked.long_home;
        counted = length-set lists l ys ∙ linked.counted;
        rings = λ (k : ℕ) (bk : k < count).
            elim (cases_eq k l) [
              | inl e ↦ subst (λ (i : ℕ). RingOf i (row (set lists l ys) i)) (sym e) (subst (RingOf l) (sym row_same) new_ring)
              | inr ne ↦ subst (RingOf k) (sym (row_other k ne)) (kept_in (linked.rings k bk) l (row lists l) ring ne a p ha (lacks_ring n lists p k bp (lacks k)))
            ];
        small = λ (k y : ℕ) (bk : k < count) (t : has y (row (set lists l ys) k) ≡ true).
            elim (cases_eq k l) [
              | inl e ↦
                  let in_ys : has y ys ≡ true = sym (ap (has y) (ap (row (set lists l ys)) e ∙ row_same)) ∙ t in
                  elim (has_of_inserted a p y ((n + l) ∷ row lists l) (ap (has y) ring_is ∙ has_tail y (n + l) ys in_ys)) [
                    | inl q ↦ subst (λ (z : ℕ). z < n) (sym q) bp
                    | inr s ↦
                        elim (has_cases y (n + l) (row lists l) s) [
                          | inl q ↦ absurd (both_ways (has (n + l) ys) new_ring.once.0 (sym (ap (λ (z : ℕ). has z ys) q) ∙ in_ys))
                          | inr u ↦ linked.small l y below u
                        ]
                  ]
              | inr ne ↦ linked.small k y bk (sym (ap (has y) (row_other k ne)) ∙ t)
            ];
      }
