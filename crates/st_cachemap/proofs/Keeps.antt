-- the fields stay sound through each change
use Rattle.std.proofs.Common.{◌≡◌, ℕ, zero, suc, ◌+◌, ◌<◌, ◌≤◌, true, false, List, [], ◌∷◌, ◌++◌, length, get_or, set, replicate, eqb, ◌⊎◌, inl, inr, refl, sym, ◌∙◌, ap, subst, arith}
use Rattle.std.proofs.lemmas.Bool.{cases_eq, cases_Bool, both_ways, or_left, eq-eqb, false≢true, false_from_ne_true}
use Rattle.std.proofs.lemmas.List.{get_or-set_other, get_or-set_same, length-set, length-map, length-replicate}
use Rattle.st_limits.specs.Cache.{has, without, promoted, AreDistinct}
use Rattle.st_limits.proofs.Members.{has_head, has_tail, has_cases, lacks_itself, has_of_without, has-without, without_here, without_there, without_absent}
use Rattle.st_links.specs.Arena.{Arena, row, is_linked, unlinked, fronted, pushed_front, pushed_back, IsArena}
use Rattle.st_links.proofs.Moves.{linked_in, linked_from, row-unlinked, row-fronted}
use Rattle.st_links.proofs.Rows.{length_of_distinct}
use Rattle.st_links.proofs.Ties.{has_more, has_end, promoted_there, promoted_absent, has-promoted}
use Rattle.st_cachemap.specs.Sound.{Sound, IsUnused, used, bucket_of}

pub length-without : (p : ℕ) (xs : List ℕ) → AreDistinct xs → has p xs ≡ true → length (without p xs) + 1 ≡ length xs
length-without p [] dist h = absurd (false≢true h)
length-without p (x ∷ xs) dist h =
    elim (cases_eq p x) [
      | inl e ↦
          let is : length (without p (x ∷ xs)) ≡ length xs =
          ap (λ (ys : List ℕ). length ys) (subst (λ (z : ℕ). without p (z ∷ xs) ≡ without p xs) e (without_here p xs))
          ∙ ap (λ (ys : List ℕ). length ys) (without_absent p xs (subst (λ (z : ℕ). has z xs ≡ false) (sym e) dist.0)) in
          omega arith
      | inr ne ↦
          let t : has p xs ≡ true = elim (has_cases p x xs h) [ inl q ↦ absurd (ne q) | inr t ↦ t ] in
          let is = ap (λ (ys : List ℕ). length ys) (without_there p x xs ne) in
          omega (arith, is, length-without p xs dist.1 t)
    ]

-- a place that was unlinked is in no list
pub free_after : (lists : List (List ℕ)) (p : ℕ) → is_linked (unlinked lists p) p ≡ false
free_after lists p =
    false_from_ne_true (is_linked (unlinked lists p) p)
    (λ (h : is_linked (unlinked lists p) p ≡ true).
    let at = linked_in (unlinked lists p) p h in
    both_ways (has p (without p (row lists at.0))) (lacks_itself p (row lists at.0)) (sym (ap (has p) (row-unlinked lists p at.0)) ∙ at.2))

-- a place is in some list of those that one of them was changed of, where the new one has all of it
linked_set : (lists : List (List ℕ)) (l : ℕ) (ys : List ℕ) (q k : ℕ) → l < length lists → has q (row lists k) ≡ true → (has q (row lists l) ≡ true → has q ys ≡ true) → is_linked (set lists l ys) q ≡ true
linked_set lists l ys q k below h more =
    elim (cases_eq k l) [
      | inl e ↦ linked_from (set lists l ys) q l (ap (has q) (get_or-set_same lists l ys [] below) ∙ more (sym (ap (λ (i : ℕ). has q (row lists i)) e) ∙ h))
      | inr ne ↦ linked_from (set lists l ys) q k (ap (has q) (get_or-set_other lists l k ys [] ne) ∙ h)
    ]

-- after a place went to another list, each linked place is linked
linked_moved : (lists : List (List ℕ)) (l p : ℕ) (ys : List ℕ) (q : ℕ) → l < length lists → has p ys ≡ true → ((r : ℕ) → has r (row (unlinked lists p) l) ≡ true → has r ys ≡ true) → is_linked lists q ≡ true → is_linked (set (unlinked lists p) l ys) q ≡ true
linked_moved lists l p ys q below p_in rest h =
    let us : List (List ℕ) = unlinked lists p in
    let l_below : l < length us = omega (arith, length-map lists (without p)) in
    elim (cases_eq q p) [
      | inl e ↦ linked_from (set us l ys) q l (ap (has q) (get_or-set_same us l ys [] l_below) ∙ ap (λ (z : ℕ). has z ys) e ∙ p_in)
      | inr ne ↦
          let at = linked_in lists q h in
          linked_set us l ys q at.0 l_below (ap (has q) (row-unlinked lists p at.0) ∙ has-without q p (row lists at.0) at.2 ne) (rest q)
    ]

module _ {order buckets : Arena} {cells : List ℕ} {len : ℕ} where
  pub used_within : Sound order buckets cells len → (p : ℕ) → has p (used order) ≡ true → p < length cells
  used_within s p h = subst (λ (k : ℕ). p < k) s.order_places (s.order_arena.within 0 p h)

  pub len_fits : Sound order buckets cells len → len ≤ length cells
  len_fits s = subst (λ (k : ℕ). k ≤ length cells) (sym s.counted) (length_of_distinct (used order) (length cells) (s.order_arena.once 0) (used_within s))

  -- a place in use is linked in both arenas
  pub used_linked : Sound order buckets cells len → (p : ℕ) → has p (used order) ≡ true → (is_linked order.lists p ≡ true) × (is_linked buckets.lists p ≡ true)
  used_linked s p h = (linked_from order.lists p 0 h, linked_from buckets.lists p (bucket_of (get_or cells p 0) (length cells)) (s.filed p h))

  -- a place that is not in use stands in no bucket
  pub unfiled : Sound order buckets cells len → (p : ℕ) → has p (used order) ≡ false → is_linked buckets.lists p ≡ false
  unfiled s p lacks =
      false_from_ne_true (is_linked buckets.lists p)
      (λ (h : is_linked buckets.lists p ≡ true). let at = linked_in buckets.lists p h in both_ways (has p (used order)) lacks (s.cached at.0 p at.2))

  pub released_used : Sound order buckets cells len → (p : ℕ) (order2 : Arena) → order2.lists ≡ pushed_back (unlinked order.lists p) 1 p → used order2 ≡ without p (used order)
  released_used s p order2 lists2 =
      let us : List (List ℕ) = unlinked order.lists p in
      ap (λ (ls : List (List ℕ)). row ls 0) lists2
      ∙ get_or-set_other us 1 0 (row us 1 ++ p ∷ []) [] (λ (q : 0 ≡ 1). absurd (omega arith))
      ∙ row-unlinked order.lists p 0

  pub released : Sound order buckets cells len → (p : ℕ) → has p (used order) ≡ true → (order2 buckets2 : Arena) (len2 : ℕ) → order2.lists ≡ pushed_back (unlinked order.lists p) 1 p → order2.places ≡ order.places → IsArena order2.lists order2.places → buckets2.lists ≡ unlinked buckets.lists p → buckets2.places ≡ buckets.places → IsArena buckets2.lists buckets2.places → len2 + 1 ≡ len → Sound order2 buckets2 cells len2
  released s p h order2 buckets2 len2 lists2 places2 arena2 blists2 bplaces2 barena2 fewer =
      let us : List (List ℕ) = unlinked order.lists p in
      let us2 = released_used s p order2 lists2 in
      let was : (q : ℕ) → has q (used order2) ≡ true → (has q (used order) ≡ true) × (q ≡ p → ⊥) =
      λ (q : ℕ) (t : has q (used order2) ≡ true). has_of_without q p (used order) (sym (ap (has q) us2) ∙ t) in
      let brow : (k : ℕ) → row buckets2.lists k ≡ without p (row buckets.lists k) =
      λ (k : ℕ). ap (λ (ls : List (List ℕ)). row ls k) blists2 ∙ row-unlinked buckets.lists p k in
      record {
        some = s.some;
        order_places = places2 ∙ s.order_places;
        order_lists = ap (λ (ls : List (List ℕ)). length ls) lists2 ∙ length-set us 1 (row us 1 ++ p ∷ []) ∙ length-map order.lists (without p) ∙ s.order_lists;
        order_arena = arena2;
        bucket_places = bplaces2 ∙ s.bucket_places;
        bucket_lists = ap (λ (ls : List (List ℕ)). length ls) blists2 ∙ length-map buckets.lists (without p) ∙ s.bucket_lists;
        bucket_arena = barena2;
        counted =
            let long = ap (λ (xs : List ℕ). length xs) us2 in
            omega (arith, long, length-without p (used order) (s.order_arena.once 0) h, s.counted, fewer);
        known = λ (q : ℕ) (b : q < length cells).
            ap (λ (ls : List (List ℕ)). is_linked ls q) lists2
            ∙ linked_moved order.lists 1 p (row us 1 ++ p ∷ []) q (omega (arith, s.order_lists)) (has_end p (row us 1)) (λ (r : ℕ) (t : has r (row us 1) ≡ true). has_more r p (row us 1) t) (s.known q b);
        filed = λ (q : ℕ) (t : has q (used order2) ≡ true).
            let w = was q t in
            let k : ℕ = bucket_of (get_or cells q 0) (length cells) in
            ap (has q) (brow k) ∙ has-without q p (row buckets.lists k) (s.filed q w.0) w.1;
        cached = λ (k q : ℕ) (t : has q (row buckets2.lists k) ≡ true).
            let w = has_of_without q p (row buckets.lists k) (sym (ap (has q) (brow k)) ∙ t) in
            ap (has q) us2 ∙ has-without q p (used order) (s.cached k q w.0) w.1;
        unique = λ (a b : ℕ) (ta : has a (used order2) ≡ true) (tb : has b (used order2) ≡ true) (e : get_or cells a 0 ≡ get_or cells b 0). s.unique a b (was a ta).0 (was b tb).0 e;
      }

  pub occupied_used : Sound order buckets cells len → (p : ℕ) → has p (used order) ≡ false → (order2 : Arena) → order2.lists ≡ pushed_front (unlinked order.lists p) 0 p → used order2 ≡ p ∷ used order
  occupied_used s p lacks order2 lists2 =
      let us : List (List ℕ) = unlinked order.lists p in
      ap (λ (ls : List (List ℕ)). row ls 0) lists2
      ∙ get_or-set_same us 0 (p ∷ row us 0) [] (omega (arith, length-map order.lists (without p), s.order_lists))
      ∙ ap (λ (xs : List ℕ). p ∷ xs) (row-unlinked order.lists p 0 ∙ without_absent p (used order) lacks)

  pub occupied : Sound order buckets cells len → (p cell : ℕ) → p < length cells → has p (used order) ≡ false → ((q : ℕ) → has q (used order) ≡ true → get_or cells q 0 ≡ cell → ⊥) → (order2 buckets2 : Arena) → order2.lists ≡ pushed_front (unlinked order.lists p) 0 p → order2.places ≡ order.places → IsArena order2.lists order2.places → buckets2.lists ≡ pushed_front buckets.lists (bucket_of cell (length cells)) p → buckets2.places ≡ buckets.places → IsArena buckets2.lists buckets2.places → bucket_of cell (length cells) < length cells → Sound order2 buckets2 (set cells p cell) (len + 1)
  occupied s p cell below lacks absent order2 buckets2 lists2 places2 arena2 blists2 bplaces2 barena2 b_below =
      let us : List (List ℕ) = unlinked order.lists p in
      let n : ℕ = length cells in
      let long : length (set cells p cell) ≡ n = length-set cells p cell in
      let b : ℕ = bucket_of cell n in
      let us2 = occupied_used s p lacks order2 lists2 in
      let here : get_or (set cells p cell) p 0 ≡ cell = get_or-set_same cells p cell 0 below in
      let there : (q : ℕ) → (q ≡ p → ⊥) → get_or (set cells p cell) q 0 ≡ get_or cells q 0 = λ (q : ℕ) (ne : q ≡ p → ⊥). get_or-set_other cells p q cell 0 ne in
      let was : (q : ℕ) → has q (used order2) ≡ true → (q ≡ p) ⊎ (has q (used order) ≡ true) =
      λ (q : ℕ) (t : has q (used order2) ≡ true). has_cases q p (used order) (sym (ap (has q) us2) ∙ t) in
      let other : (q : ℕ) → has q (used order) ≡ true → q ≡ p → ⊥ =
      λ (q : ℕ) (t : has q (used order) ≡ true) (e : q ≡ p). both_ways (has p (used order)) lacks (sym (ap (λ (z : ℕ). has z (used order)) e) ∙ t) in
      let p_now : has p (used order2) ≡ true = ap (has p) us2 ∙ has_head p (used order) in
      let now : (q : ℕ) → has q (used order) ≡ true → has q (used order2) ≡ true = λ (q : ℕ) (t : has q (used order) ≡ true). ap (has q) us2 ∙ has_tail q p (used order) t in
      let brow_same : row buckets2.lists b ≡ p ∷ row buckets.lists b =
      ap (λ (ls : List (List ℕ)). row ls b) blists2 ∙ get_or-set_same buckets.lists b (p ∷ row buckets.lists b) [] (subst (λ (k : ℕ). b < k) (sym s.bucket_lists) b_below) in
      let brow_other : (k : ℕ) → (k ≡ b → ⊥) → row buckets2.lists k ≡ row buckets.lists k =
      λ (k : ℕ) (ne : k ≡ b → ⊥). ap (λ (ls : List (List ℕ)). row ls k) blists2 ∙ get_or-set_other buckets.lists b k (p ∷ row buckets.lists b) [] ne in
      record {
        some = subst (λ (k : ℕ). 0 < k) (sym long) s.some;
        order_places = places2 ∙ s.order_places ∙ sym long;
        order_lists = ap (λ (ls : List (List ℕ)). length ls) lists2 ∙ length-set us 0 (p ∷ row us 0) ∙ length-map order.lists (without p) ∙ s.order_lists;
        order_arena = arena2;
        bucket_places = bplaces2 ∙ s.bucket_places ∙ sym long;
        bucket_lists = ap (λ (ls : List (List ℕ)). length ls) blists2 ∙ length-set buckets.lists b (p ∷ row buckets.lists b) ∙ s.bucket_lists ∙ sym long;
        bucket_arena = barena2;
        counted = let more = ap (λ (xs : List ℕ). length xs) us2 in omega (arith, more, s.counted);
        known = λ (q : ℕ) (bq : q < length (set cells p cell)).
            ap (λ (ls : List (List ℕ)). is_linked ls q) lists2
            ∙ linked_moved order.lists 0 p (p ∷ row us 0) q (omega (arith, s.order_lists)) (has_head p (row us 0)) (λ (r : ℕ) (t : has r (row us 0) ≡ true). has_tail r p (row us 0) t) (s.known q (subst (λ (k : ℕ). q < k) long bq));
        filed = λ (q : ℕ) (t : has q (used order2) ≡ true).
            let In : ℕ → Type 0 = λ (k : ℕ). has q (row buckets2.lists k) ≡ true in
            elim (was q t) [
              | inl e ↦
                  let k_is : bucket_of (get_or (set cells p cell) q 0) (length (set cells p cell)) ≡ b =
                  ap (λ (m : ℕ). bucket_of (get_or (set cells p cell) q 0) m) long ∙ ap (λ (c : ℕ). bucket_of c n) (ap (λ (z : ℕ). get_or (set cells p cell) z 0) e ∙ here) in
                  subst In (sym k_is) (ap (has q) brow_same ∙ or_left (eqb q p) (has q (row buckets.lists b)) (eq-eqb q p e))
              | inr u ↦
                  let k : ℕ = bucket_of (get_or cells q 0) n in
                  let k_is : bucket_of (get_or (set cells p cell) q 0) (length (set cells p cell)) ≡ k =
                  ap (λ (m : ℕ). bucket_of (get_or (set cells p cell) q 0) m) long ∙ ap (λ (c : ℕ). bucket_of c n) (there q (other q u)) in
                  subst In (sym k_is)
                  (elim (cases_eq k b) [
                    | inl e ↦ subst In (sym e) (ap (has q) brow_same ∙ has_tail q p (row buckets.lists b) (sym (ap (λ (i : ℕ). has q (row buckets.lists i)) e) ∙ s.filed q u))
                    | inr ne ↦ ap (has q) (brow_other k ne) ∙ s.filed q u
                  ])
            ];
        cached = λ (k q : ℕ) (t : has q (row buckets2.lists k) ≡ true).
            elim (cases_eq k b) [
              | inl e ↦
                  elim (has_cases q p (row buckets.lists b) (sym (ap (has q) (ap (row buckets2.lists) e ∙ brow_same)) ∙ t)) [
                    | inl same ↦ ap (λ (z : ℕ). has z (used order2)) same ∙ p_now
                    | inr u ↦ now q (s.cached b q u)
                  ]
              | inr ne ↦ now q (s.cached k q (sym (ap (has q) (brow_other k ne)) ∙ t))
            ];
        unique = λ (x y : ℕ) (tx : has x (used order2) ≡ true) (ty : has y (used order2) ≡ true) (e : get_or (set cells p cell) x 0 ≡ get_or (set cells p cell) y 0).
            let read = λ (z : ℕ). get_or (set cells p cell) z 0 in
            elim (was x tx) [
              | inl xp ↦
                  elim (was y ty) [
                    | inl yp ↦ xp ∙ sym yp
                    | inr u ↦ absurd (absent y u (sym (there y (other y u)) ∙ sym e ∙ ap read xp ∙ here))
                  ]
              | inr v ↦
                  elim (was y ty) [
                    | inl yp ↦ absurd (absent x v (sym (there x (other x v)) ∙ e ∙ ap read yp ∙ here))
                    | inr u ↦ s.unique x y v u (sym (there x (other x v)) ∙ e ∙ there y (other y u))
                  ]
            ];
      }

  pub fronted_used : Sound order buckets cells len → (p : ℕ) → has p (used order) ≡ true → (order2 : Arena) → order2.lists ≡ fronted order.lists p → used order2 ≡ p ∷ without p (used order)
  fronted_used s p h order2 lists2 = ap (λ (ls : List (List ℕ)). row ls 0) lists2 ∙ row-fronted order.lists p 0 ∙ promoted_there p (used order) h

  pub moved_front : Sound order buckets cells len → (p : ℕ) → has p (used order) ≡ true → (order2 : Arena) → order2.lists ≡ fronted order.lists p → order2.places ≡ order.places → IsArena order2.lists order2.places → Sound order2 buckets cells len
  moved_front s p h order2 lists2 places2 arena2 =
      let us2 = fronted_used s p h order2 lists2 in
      let was : (q : ℕ) → has q (used order2) ≡ true → has q (used order) ≡ true =
      λ (q : ℕ) (t : has q (used order2) ≡ true).
      elim (has_cases q p (without p (used order)) (sym (ap (has q) us2) ∙ t)) [
        | inl e ↦ ap (λ (z : ℕ). has z (used order)) e ∙ h
        | inr u ↦ (has_of_without q p (used order) u).0
      ] in
      let now : (q : ℕ) → has q (used order) ≡ true → has q (used order2) ≡ true =
      λ (q : ℕ) (t : has q (used order) ≡ true).
      ap (has q) us2
      ∙ elim (cases_eq q p) [
        | inl e ↦ or_left (eqb q p) (has q (without p (used order))) (eq-eqb q p e)
        | inr ne ↦ has_tail q p (without p (used order)) (has-without q p (used order) t ne)
      ] in
      record {
        some = s.some;
        order_places = places2 ∙ s.order_places;
        order_lists = ap (λ (ls : List (List ℕ)). length ls) lists2 ∙ length-map order.lists (promoted p) ∙ s.order_lists;
        order_arena = arena2;
        bucket_places = s.bucket_places;
        bucket_lists = s.bucket_lists;
        bucket_arena = s.bucket_arena;
        counted =
            let long = ap (λ (xs : List ℕ). length xs) us2 in
            omega (arith, long, length-without p (used order) (s.order_arena.once 0) h, s.counted);
        known = λ (q : ℕ) (b : q < length cells).
            let at = linked_in order.lists q (s.known q b) in
            ap (λ (ls : List (List ℕ)). is_linked ls q) lists2
            ∙ linked_from (fronted order.lists p) q at.0 (ap (has q) (row-fronted order.lists p at.0) ∙ stays q (row order.lists at.0) at.2);
        filed = λ (q : ℕ) (t : has q (used order2) ≡ true). s.filed q (was q t);
        cached = λ (k q : ℕ) (t : has q (row buckets.lists k) ≡ true). now q (s.cached k q t);
        unique = λ (a b : ℕ) (ta : has a (used order2) ≡ true) (tb : has b (used order2) ≡ true) (e : get_or cells a 0 ≡ get_or cells b 0). s.unique a b (was a ta) (was b tb) e;
      }
    where
      stays : (q : ℕ) (xs : List ℕ) → has q xs ≡ true → has q (promoted p xs) ≡ true
      stays q xs t =
          elim (cases_Bool (has p xs)) [
            | inl hp ↦ has-promoted q p xs hp t
            | inr lacks ↦ ap (has q) (promoted_absent p xs lacks) ∙ t
          ]

has_of_more : (y p : ℕ) (xs : List ℕ) → has y (xs ++ p ∷ []) ≡ true → (has y xs ≡ true) ⊎ (y ≡ p)
has_of_more y p [] h = elim (has_cases y p [] h) [ inl e ↦ inr e | inr t ↦ absurd (false≢true t) ]
has_of_more y p (x ∷ xs) h =
    elim (has_cases y x (xs ++ p ∷ []) h) [
      | inl e ↦ inl (or_left (eqb y x) (has y xs) (eq-eqb y x e))
      | inr t ↦ elim (has_of_more y p xs t) [ inl u ↦ inl (has_tail y x xs u) | inr e ↦ inr e ]
    ]

-- one more place is free
pub freed : (order order2 : Arena) (n i : ℕ) → IsUnused order n i → order2 ≡ record order { lists = pushed_back order.lists 1 i } → IsArena order2.lists order2.places → IsUnused order2 n (i + 1)
freed order order2 n i unused e arena2 =
    let ys : List ℕ = row order.lists 1 ++ i ∷ [] in
    let lists2 : order2.lists ≡ set order.lists 1 ys = ap (λ (a : Arena). a.lists) e in
    let below : 1 < length order.lists = omega (arith, unused.two) in
    record {
      places = ap (λ (a : Arena). a.places) e ∙ unused.places;
      two = ap (λ (ls : List (List ℕ)). length ls) lists2 ∙ length-set order.lists 1 ys ∙ unused.two;
      arena = arena2;
      none_used = ap (λ (ls : List (List ℕ)). row ls 0) lists2 ∙ get_or-set_other order.lists 1 0 ys [] (λ (q : 0 ≡ 1). absurd (omega arith)) ∙ unused.none_used;
      free = λ (p : ℕ) (b : p < i + 1).
          ap (λ (ls : List (List ℕ)). is_linked ls p) lists2
          ∙ elim (cases_eq p i) [
            | inl same ↦ linked_from (set order.lists 1 ys) p 1 (ap (has p) (get_or-set_same order.lists 1 ys [] below) ∙ ap (λ (z : ℕ). has z ys) same ∙ has_end i (row order.lists 1))
            | inr ne ↦
                let at = linked_in order.lists p (unused.free p (omega arith)) in
                linked_set order.lists 1 ys p at.0 below at.2 (λ (t : has p (row order.lists 1) ≡ true). has_more p i (row order.lists 1) t)
          ];
      rest = λ (p : ℕ) (b : i + 1 ≤ p).
          let none : is_linked order.lists p ≡ false = unused.rest p (omega arith) in
          ap (λ (ls : List (List ℕ)). is_linked ls p) lists2
          ∙ false_from_ne_true (is_linked (set order.lists 1 ys) p)
          (λ (h : is_linked (set order.lists 1 ys) p ≡ true).
          let at = linked_in (set order.lists 1 ys) p h in
          elim (cases_eq at.0 1) [
            | inl one ↦
                elim (has_of_more p i (row order.lists 1) (sym (ap (has p) (ap (row (set order.lists 1 ys)) one ∙ get_or-set_same order.lists 1 ys [] below)) ∙ at.2)) [
                  | inl t ↦ both_ways (is_linked order.lists p) none (linked_from order.lists p 1 t)
                  | inr same ↦ absurd (omega arith)
                ]
            | inr other ↦
                both_ways (is_linked order.lists p) none
                (linked_from order.lists p at.0 (sym (ap (has p) (get_or-set_other order.lists 1 at.0 ys [] other)) ∙ at.2))
          ]);
    }

row-none : (n k : ℕ) → row (replicate n []) k ≡ []
row-none zero k = refl
row-none (suc n) zero = refl
row-none (suc n) (suc k) = row-none n k

-- an empty cache
pub made : (order buckets : Arena) (cells : List ℕ) (n : ℕ) → 0 < n → length cells ≡ n → IsUnused order n n → buckets.lists ≡ replicate n [] → buckets.places ≡ n → IsArena buckets.lists buckets.places → Sound order buckets cells 0
made order buckets cells n some long unused blists bplaces barena =
    let none : (q : ℕ) → has q (used order) ≡ true → ⊥ = λ (q : ℕ) (h : has q (used order) ≡ true). false≢true (sym (ap (has q) unused.none_used) ∙ h) in
    record {
      some = subst (λ (k : ℕ). 0 < k) (sym long) some;
      order_places = unused.places ∙ sym long;
      order_lists = unused.two;
      order_arena = unused.arena;
      bucket_places = bplaces ∙ sym long;
      bucket_lists = ap (λ (ls : List (List ℕ)). length ls) blists ∙ length-replicate n [] ∙ sym long;
      bucket_arena = barena;
      counted = sym (ap (λ (xs : List ℕ). length xs) unused.none_used);
      known = λ (p : ℕ) (b : p < length cells). unused.free p (subst (λ (k : ℕ). p < k) long b);
      filed = λ (p : ℕ) (h : has p (used order) ≡ true). absurd (none p h);
      cached = λ (k p : ℕ) (h : has p (row buckets.lists k) ≡ true). absurd (false≢true (sym (ap (has p) (ap (λ (ls : List (List ℕ)). row ls k) blists ∙ row-none n k)) ∙ h));
      unique = λ (p q : ℕ) (h : has p (used order) ≡ true). absurd (none p h);
    }
