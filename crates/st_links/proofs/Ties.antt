-- the arrays stand for the new lists after each call
use Rattle.std.proofs.Common.{◌≡◌, ℕ, zero, suc, ◌+◌, ◌<◌, true, false, List, [], ◌∷◌, ◌++◌, length, get_or, set, replicate, eqb, inl, inr, refl, sym, ◌∙◌, ap, subst, arith}
use Rattle.std.proofs.lemmas.Bool.{cases_eq, cases_lt, both_ways, eq-eqb, cond-true, cond-false, false≢true, or_left}
use Rattle.std.proofs.lemmas.List.{get_or-set_other, get_or-set_same, length-set, length-map, ext_get_or, get_or_past, length-replicate}
use Rattle.st_limits.specs.Cache.{has, without, promoted, AreDistinct}
use Rattle.st_limits.proofs.Members.{has_head, has_tail, has_cases, has-without, lacks_itself, without_absent}
use Rattle.st_links.specs.Arena.{row, is_linked, unlinked, fronted, pushed_front, pushed_back, IsArena}
use Rattle.st_links.specs.Ring.{follower, Ring, Linked, Tied, put_next, put_prev}
use Rattle.st_links.proofs.Follow.{follower_here, inserted, inserted_here, inserted-last, last_from, last_from_in}
use Rattle.st_links.proofs.Rings.{last_is}
use Rattle.st_links.proofs.Moves.{linked_in, linked_from, lacks_in, row-unlinked, row-fronted, lacks_other, out, into, rehomed}

-- a number that stands in the list stands in it with p put anywhere
pub has_more : (y p : ℕ) (xs : List ℕ) → has y xs ≡ true → has y (xs ++ p ∷ []) ≡ true
has_more y p [] h = absurd (false≢true h)
has_more y p (x ∷ xs) h =
    elim (has_cases y x xs h) [ inl e ↦ or_left (eqb y x) (has y (xs ++ p ∷ [])) (eq-eqb y x e) | inr t ↦ has_tail y x (xs ++ p ∷ []) (has_more y p xs t) ]

pub has_end : (p : ℕ) (xs : List ℕ) → has p (xs ++ p ∷ []) ≡ true
has_end p [] = has_head p []
has_end p (x ∷ xs) = has_tail p x (xs ++ p ∷ []) (has_end p xs)

pub promoted_there : (p : ℕ) (xs : List ℕ) → has p xs ≡ true → promoted p xs ≡ p ∷ without p xs
promoted_there p xs h = cond-true (has p xs) (p ∷ without p xs) xs h

pub promoted_absent : (p : ℕ) (xs : List ℕ) → has p xs ≡ false → promoted p xs ≡ xs
promoted_absent p xs h = cond-false (has p xs) (p ∷ without p xs) xs h

pub has-promoted : (y p : ℕ) (xs : List ℕ) → has p xs ≡ true → has y xs ≡ true → has y (promoted p xs) ≡ true
has-promoted y p xs hp hy =
    ap (has y) (promoted_there p xs hp)
    ∙ elim (cases_eq y p) [ inl e ↦ or_left (eqb y p) (has y (without p xs)) (eq-eqb y p e) | inr ne ↦ has_tail y p (without p xs) (has-without y p xs hy ne) ]

module _ {nx pv hm : List ℕ} {n count : ℕ} {lists : List (List ℕ)} where
  -- where a linked place stands
  pub home_of : Tied nx pv hm n count lists → (p : ℕ) → is_linked lists p ≡ true → (p < n) × (get_or hm p 0 < count) × (has p (row lists (get_or hm p 0)) ≡ true)
  home_of tied p h =
      let at = linked_in lists p h in
      let l : ℕ = at.0 in
      let below : l < count = subst (λ (k : ℕ). l < k) tied.linked.counted at.1 in
      let home : get_or hm p 0 ≡ l = ((tied.linked.rings l below).inside p (has_tail p (n + l) (row lists l) at.2)).1 in
      (tied.linked.small l p below at.2, subst (λ (k : ℕ). k < count) (sym home) below, ap (λ (k : ℕ). has p (row lists k)) home ∙ at.2)

  pub tied_out : Tied nx pv hm n count lists → (p : ℕ) → is_linked lists p ≡ true → Tied (set nx (get_or pv p 0) (get_or nx p 0)) (set pv (get_or nx p 0) (get_or pv p 0)) (set hm p count) n count (unlinked lists p)
  tied_out tied p h =
      let at = home_of tied p h in
      let lacks : (k : ℕ) → has p (row (unlinked lists p) k) ≡ false = λ (k : ℕ). ap (has p) (row-unlinked lists p k) ∙ lacks_itself p (row lists k) in
      let p_below : p < length hm = subst (λ (k : ℕ). p < k) tied.linked.long_home (omega (arith, at.0)) in
      record {
        linked = rehomed (out tied.linked p (get_or hm p 0) at.1 at.2) p count at.0 lacks;
        held = λ (q : ℕ) (bq : q < n) (home : get_or (set hm p count) q 0 < count).
            elim (cases_eq q p) [
              | inl e ↦
                  let is : get_or (set hm p count) q 0 ≡ count = ap (λ (k : ℕ). get_or (set hm p count) k 0) e ∙ get_or-set_same hm p count 0 p_below in
                  absurd (omega arith)
              | inr ne ↦
                  let is : get_or (set hm p count) q 0 ≡ get_or hm q 0 = get_or-set_other hm p q count 0 ne in
                  let there : has q (row lists (get_or hm q 0)) ≡ true = tied.held q bq (subst (λ (k : ℕ). k < count) is home) in
                  ap (λ (k : ℕ). has q (row (unlinked lists p) k)) is
                  ∙ ap (has q) (row-unlinked lists p (get_or hm q 0))
                  ∙ has-without q p (row lists (get_or hm q 0)) there ne
            ];
      }

  -- p is put behind node a of list l, which then is ys
  pub tied_in : Tied nx pv hm n count lists → (a p l : ℕ) (ys : List ℕ) → l < count → has a ((n + l) ∷ row lists l) ≡ true → p < n → is_linked lists p ≡ false → inserted a p ((n + l) ∷ row lists l) ≡ (n + l) ∷ ys → has p ys ≡ true → ((q : ℕ) → has q (row lists l) ≡ true → has q ys ≡ true) → Tied (put_next nx a p) (put_prev nx pv a p) (set hm p l) n count (set lists l ys)
  tied_in tied a p l ys below ha bp free ring_is p_in rest_in =
      let lacks = lacks_in lists p free in
      let p_below : p < length hm = subst (λ (k : ℕ). p < k) tied.linked.long_home (omega arith) in
      let home : get_or (set hm p l) p 0 ≡ l = get_or-set_same hm p l 0 p_below in
      let row_same : row (set lists l ys) l ≡ ys = get_or-set_same lists l ys [] (subst (λ (i : ℕ). l < i) (sym tied.linked.counted) below) in
      record {
        linked = into (rehomed tied.linked p l bp lacks) a p l ys below ha bp lacks home ring_is;
        held = λ (q : ℕ) (bq : q < n) (hq : get_or (set hm p l) q 0 < count).
            let Has : ℕ → Type 0 = λ (k : ℕ). has q (row (set lists l ys) k) ≡ true in
            elim (cases_eq q p) [
              | inl e ↦
                  let is : get_or (set hm p l) q 0 ≡ l = ap (λ (k : ℕ). get_or (set hm p l) k 0) e ∙ home in
                  subst Has (sym is) (ap (has q) row_same ∙ ap (λ (z : ℕ). has z ys) e ∙ p_in)
              | inr ne ↦
                  let is : get_or (set hm p l) q 0 ≡ get_or hm q 0 = get_or-set_other hm p q l 0 ne in
                  let k : ℕ = get_or hm q 0 in
                  let there : has q (row lists k) ≡ true = tied.held q bq (subst (λ (i : ℕ). i < count) is hq) in
                  subst Has (sym is)
                  (elim (cases_eq k l) [
                    | inl e ↦ subst Has (sym e) (ap (has q) row_same ∙ rest_in q (sym (ap (λ (i : ℕ). has q (row lists i)) e) ∙ there))
                    | inr other ↦ ap (has q) (get_or-set_other lists l k ys [] other) ∙ there
                  ])
            ];
      }

  pub tied_front : Tied nx pv hm n count lists → (p l : ℕ) → l < count → p < n → is_linked lists p ≡ false → Tied (put_next nx (n + l) p) (put_prev nx pv (n + l) p) (set hm p l) n count (pushed_front lists l p)
  tied_front tied p l below bp free =
      let xs : List ℕ = row lists l in
      tied_in tied (n + l) p l (p ∷ xs) below (has_head (n + l) xs) bp free (inserted_here (n + l) p (n + l) xs refl) (has_head p xs)
      (λ (q : ℕ) (h : has q xs ≡ true). has_tail q p xs h)

  pub tied_back : Tied nx pv hm n count lists → (p l : ℕ) → l < count → p < n → is_linked lists p ≡ false → Tied (put_next nx (get_or pv (n + l) 0) p) (put_prev nx pv (get_or pv (n + l) 0) p) (set hm p l) n count (pushed_back lists l p)
  tied_back tied p l below bp free =
      let xs : List ℕ = row lists l in
      let ring = tied.linked.rings l below in
      let last : get_or pv (n + l) 0 ≡ last_from (n + l) xs = last_is ring in
      subst (λ (a : ℕ). Tied (put_next nx a p) (put_prev nx pv a p) (set hm p l) n count (pushed_back lists l p)) (sym last)
      (tied_in tied (last_from (n + l) xs) p l (xs ++ p ∷ []) below (last_from_in (n + l) xs) bp free (inserted-last (n + l) p xs ring.once) (has_end p xs)
      (λ (q : ℕ) (h : has q xs ≡ true). has_more q p xs h))

  -- the lists with p put first are those without it, with it put back
  fronted_is : Linked nx pv hm n count lists → (p l : ℕ) → l < count → has p (row lists l) ≡ true → set (unlinked lists p) l (p ∷ row (unlinked lists p) l) ≡ fronted lists p
  fronted_is linked p l below h =
      let us : List (List ℕ) = unlinked lists p in
      let long : length us ≡ length lists = length-map lists (without p) in
      let l_below : l < length us = omega (arith, linked.counted) in
      ext_get_or [] (set us l (p ∷ row us l)) (fronted lists p)
      (length-set us l (p ∷ row us l) ∙ long ∙ sym (length-map lists (promoted p)))
      (λ (k : ℕ) (bk : k < length (set us l (p ∷ row us l))).
      elim (cases_eq k l) [
        | inl e ↦
            let there : has p (row lists k) ≡ true = ap (λ (i : ℕ). has p (row lists i)) e ∙ h in
            ap (λ (i : ℕ). row (set us l (p ∷ row us l)) i) e
            ∙ get_or-set_same us l (p ∷ row us l) [] l_below
            ∙ ap (λ (ys : List ℕ). p ∷ ys) (row-unlinked lists p l)
            ∙ ap (λ (i : ℕ). p ∷ without p (row lists i)) (sym e)
            ∙ sym (promoted_there p (row lists k) there)
            ∙ sym (row-fronted lists p k)
        | inr ne ↦
            let k_below : k < count = omega (arith, linked.counted, length-set us l (p ∷ row us l)) in
            let absent : has p (row lists k) ≡ false = lacks_other linked p k l k_below below h ne in
            get_or-set_other us l k (p ∷ row us l) [] ne
            ∙ row-unlinked lists p k
            ∙ without_absent p (row lists k) absent
            ∙ sym (promoted_absent p (row lists k) absent)
            ∙ sym (row-fronted lists p k)
      ])

  pub tied_fronted : Tied nx pv hm n count lists → (p : ℕ) → is_linked lists p ≡ true → (nx1 pv1 : List ℕ) → nx1 ≡ set nx (get_or pv p 0) (get_or nx p 0) → pv1 ≡ set pv (get_or nx p 0) (get_or pv p 0) → Tied (put_next nx1 (n + get_or hm p 0) p) (put_prev nx1 pv1 (n + get_or hm p 0) p) hm n count (fronted lists p)
  tied_fronted tied p h nx1 pv1 nx_is pv_is =
      let at = home_of tied p h in
      let l : ℕ = get_or hm p 0 in
      let us : List (List ℕ) = unlinked lists p in
      let lacks : (k : ℕ) → has p (row us k) ≡ false = λ (k : ℕ). ap (has p) (row-unlinked lists p k) ∙ lacks_itself p (row lists k) in
      let taken : Linked nx1 pv1 hm n count us =
      subst (λ (a : List ℕ). Linked a pv1 hm n count us) (sym nx_is)
      (subst (λ (b : List ℕ). Linked (set nx (get_or pv p 0) (get_or nx p 0)) b hm n count us) (sym pv_is) (out tied.linked p l at.1 at.2)) in
      let put : Linked (put_next nx1 (n + l) p) (put_prev nx1 pv1 (n + l) p) hm n count (set us l (p ∷ row us l)) =
      into taken (n + l) p l (p ∷ row us l) at.1 (has_head (n + l) (row us l)) at.0 lacks refl (inserted_here (n + l) p (n + l) (row us l) refl) in
      record {
        linked = subst (Linked (put_next nx1 (n + l) p) (put_prev nx1 pv1 (n + l) p) hm n count) (fronted_is tied.linked p l at.1 at.2) put;
        held = λ (q : ℕ) (bq : q < n) (hq : get_or hm q 0 < count).
            let k : ℕ = get_or hm q 0 in
            let there : has q (row lists k) ≡ true = tied.held q bq hq in
            ap (has q) (row-fronted lists p k)
            ∙ elim (cases_eq k l) [
              | inl e ↦ has-promoted q p (row lists k) (ap (λ (i : ℕ). has p (row lists i)) e ∙ at.2) there
              | inr ne ↦ ap (has q) (promoted_absent p (row lists k) (lacks_other tied.linked p k l hq at.1 at.2 ne)) ∙ there
            ];
      }

  -- what callers may rely on
  pub IsArena-from : Tied nx pv hm n count lists → IsArena lists n
  IsArena-from tied =
      let counted = tied.linked.counted in
      record {
        within = λ (l p : ℕ) (h : has p (row lists l) ≡ true). (home_of tied p (linked_from lists p l h)).0;
        once = λ (l : ℕ).
            elim (cases_lt l (length lists)) [
              | inl below ↦ (tied.linked.rings l (subst (λ (k : ℕ). l < k) counted below)).once.1
              | inr past ↦ subst AreDistinct (sym (get_or_past lists l [] past)) tt
            ];
        apart = λ (k l p : ℕ) (bk : k < length lists) (bl : l < length lists) (hk : has p (row lists k) ≡ true) (hl : has p (row lists l) ≡ true).
            elim (cases_eq k l) [
              | inl e ↦ e
              | inr ne ↦
                  absurd (both_ways (has p (row lists k)) (lacks_other tied.linked p k l (subst (λ (i : ℕ). k < i) counted bk) (subst (λ (i : ℕ). l < i) counted bl) hl ne) hk)
            ];
      }

row-empty : (count l : ℕ) → row (replicate count []) l ≡ []
row-empty zero l = refl
row-empty (suc count) zero = refl
row-empty (suc count) (suc l) = row-empty count l

-- arrays in which each node names itself stand for empty lists
pub tied_made : (nx pv hm : List ℕ) (n count : ℕ) → n + count ≡ length nx → n + count ≡ length pv → n + count ≡ length hm → ((k : ℕ) → k < n + count → get_or nx k 0 ≡ k) → ((k : ℕ) → k < n + count → get_or pv k 0 ≡ k) → ((k : ℕ) → k < n → get_or hm k 0 ≡ count) → ((l : ℕ) → l < count → get_or hm (n + l) 0 ≡ l) → Tied nx pv hm n count (replicate count [])
tied_made nx pv hm n count long_nx long_pv long_hm next prev free sentinel =
    let only : (l y : ℕ) → has y ((n + l) ∷ []) ≡ true → y ≡ n + l = λ (l y : ℕ) (h : has y ((n + l) ∷ []) ≡ true). elim (has_cases y (n + l) [] h) [ inl e ↦ e | inr t ↦ absurd (false≢true t) ] in
    record {
      linked = record {
        long_next = long_nx;
        long_prev = long_pv;
        long_home = long_hm;
        counted = length-replicate count [];
        rings = λ (l : ℕ) (below : l < count).
            let d : ℕ = n + l in
            let d_below : d < n + count = omega arith in
            subst (Ring nx pv hm (n + count) l d) (sym (row-empty count l))
            (record {
              inside = λ (y : ℕ) (h : has y (d ∷ []) ≡ true).
                  let e = only l y h in
                  (subst (λ (z : ℕ). z < n + count) (sym e) d_below, ap (λ (z : ℕ). get_or hm z 0) e ∙ sentinel l below);
              once = (refl, tt);
              forth = λ (y : ℕ) (h : has y (d ∷ []) ≡ true).
                  let e = only l y h in
                  ap (λ (z : ℕ). get_or nx z 0) e ∙ next d d_below ∙ sym (follower_here d d []) ∙ ap (follower d (d ∷ [])) (sym e);
              back = λ (y : ℕ) (h : has y (d ∷ []) ≡ true).
                  let e = only l y h in
                  ap (λ (z : ℕ). get_or pv z 0) (ap (λ (z : ℕ). get_or nx z 0) e ∙ next d d_below) ∙ prev d d_below ∙ sym e;
            });
        small = λ (l y : ℕ) (below : l < count) (h : has y (row (replicate count []) l) ≡ true). absurd (false≢true (sym (ap (has y) (row-empty count l)) ∙ h));
      };
      held = λ (p : ℕ) (bp : p < n) (h : get_or hm p 0 < count). let is : get_or hm p 0 ≡ count = free p bp in absurd (omega arith);
    }
