-- what each call has to show, from what the fields were and what its helpers ensure
use Rattle.std.proofs.Common.{◌≡◌, ℕ, ◌+◌, ◌<◌, true, false, List, ◌∷◌, length, get_or, set, sym, ◌∙◌, ap, subst, arith}
use Rattle.std.proofs.lemmas.Grind.{get_or_default_zero}
use Rattle.st_limits.specs.Cache.{has}
use Rattle.st_limits.proofs.Members.{has_head, has_tail}
use Rattle.st_links.specs.Arena.{Arena, row, is_linked, pushed_front, pushed_back, unlinked, fronted}
use Rattle.st_links.specs.Ring.{Linked, Tied, rows, taken_next, taken_prev, put_next, put_prev}
use Rattle.st_links.proofs.Rings.{next_in, prev_in, last_is}
use Rattle.st_links.proofs.Follow.{last_from_in}
use Rattle.st_links.proofs.Rows.{rows_is}
use Rattle.st_links.proofs.Moves.{out}
use Rattle.st_links.proofs.Ties.{home_of, tied_out, tied_front, tied_back, tied_fronted}

-- a node and its neighbours are within the arrays
pub record Within (nx pv hm : List ℕ) (y : ℕ) : Type 0 where
  pub next_in : y < length nx
  pub prev_in : y < length pv
  pub home_in : y < length hm
  pub behind_in : get_or nx y 0 < length pv
  pub before_in : get_or pv y 0 < length nx

module _ {nx pv hm : List ℕ} {n count : ℕ} {lists : List (List ℕ)} where
  prev_of_sentinel : Linked nx pv hm n count lists → (l : ℕ) → l < count → has (get_or pv (n + l) 0) ((n + l) ∷ row lists l) ≡ true
  prev_of_sentinel linked l below =
      ap (λ (z : ℕ). has z ((n + l) ∷ row lists l)) (last_is (linked.rings l below)) ∙ last_from_in (n + l) (row lists l)

  within_from : Linked nx pv hm n count lists → (l y : ℕ) → l < count → has y ((n + l) ∷ row lists l) ≡ true → has (get_or pv y 0) ((n + l) ∷ row lists l) ≡ true → Within nx pv hm y
  within_from linked l y below h before =
      let ring = linked.rings l below in
      let node = (ring.inside y h).0 in
      let behind = (ring.inside (get_or nx y 0) (next_in ring y h)).0 in
      let front = (ring.inside (get_or pv y 0) before).0 in
      record {
        next_in = subst (λ (k : ℕ). y < k) linked.long_next node;
        prev_in = subst (λ (k : ℕ). y < k) linked.long_prev node;
        home_in = subst (λ (k : ℕ). y < k) linked.long_home node;
        behind_in = subst (λ (k : ℕ). get_or nx y 0 < k) linked.long_prev behind;
        before_in = subst (λ (k : ℕ). get_or pv y 0 < k) linked.long_next front;
      }

  -- a sentinel
  pub within_sentinel : Linked nx pv hm n count lists → (l : ℕ) → l < count → Within nx pv hm (n + l)
  within_sentinel linked l below = within_from linked l (n + l) below (has_head (n + l) (row lists l)) (prev_of_sentinel linked l below)

  -- what stands behind the last node of a list
  pub behind_last : Linked nx pv hm n count lists → (l : ℕ) → l < count → get_or nx (get_or pv (n + l) 0) 0 < length pv
  behind_last linked l below =
      let ring = linked.rings l below in
      let last : ℕ = get_or pv (n + l) 0 in
      subst (λ (k : ℕ). get_or nx last 0 < k) linked.long_prev (ring.inside (get_or nx last 0) (next_in ring last (prev_of_sentinel linked l below))).0

  -- a linked place
  pub within_place : Tied nx pv hm n count lists → (p : ℕ) → is_linked lists p ≡ true → Within nx pv hm p
  within_place tied p h =
      let at = home_of tied p h in
      let l : ℕ = get_or hm p 0 in
      within_from tied.linked l p at.1 (has_tail p (n + l) (row lists l) at.2) (prev_in (tied.linked.rings l at.1) p at.2)

-- a number that was read is the one at its place
pub read_at : (xs : List ℕ) (i x : ℕ) → x ≡ get_or xs i x → i < length xs → x ≡ get_or xs i 0
read_at xs i x is below = is ∙ get_or_default_zero xs i x below

abbrev arena : List (List ℕ) → ℕ → Arena
arena lists n = record { lists = lists; places = n }

-- the fields are closed, and stand for this arena
pub record Done (nx pv hm : List ℕ) (n count : ℕ) (a : Arena) : Type 0 where
  pub closed : Tied nx pv hm n count (rows nx n count)
  pub seen : record { lists = rows nx n count; places = n } ≡ a

pub done : {nx pv hm : List ℕ} {n count : ℕ} {lists : List (List ℕ)} → Tied nx pv hm n count lists → Done nx pv hm n count (record { lists = lists; places = n })
done {nx} {pv} {hm} {n} {count} {lists} tied =
    let is : rows nx n count ≡ lists = rows_is tied.linked in
    record {
      closed = subst (Tied nx pv hm n count) (sym is) tied;
      seen = ap (λ (xs : List (List ℕ)). arena xs n) is;
    }

-- the same where the places are counted by an equal number
sized : {nx pv hm : List ℕ} {n count : ℕ} {lists : List (List ℕ)} (places : ℕ) → n ≡ places → Tied nx pv hm n count lists → Done nx pv hm n count (record { lists = lists; places = places })
sized {nx} {pv} {hm} {n} {count} {lists} places e tied = subst (λ (k : ℕ). Done nx pv hm n count (arena lists k)) e (done tied)

module _ {nx pv hm : List ℕ} {n count : ℕ} {a : Arena} where
  -- the arena that a caller sees is the one of the fields
  at_seen : Tied nx pv hm n count (rows nx n count) → record { lists = rows nx n count; places = n } ≡ a → Tied nx pv hm n count a.lists × (n ≡ a.places)
  at_seen tied seen = (subst (λ (b : Arena). Tied nx pv hm n count b.lists) seen tied, ap (λ (b : Arena). b.places) seen)

  pub seen_tied : Tied nx pv hm n count (rows nx n count) → record { lists = rows nx n count; places = n } ≡ a → Tied nx pv hm n count a.lists
  seen_tied tied seen = (at_seen tied seen).0

  pub unlink_done : Tied nx pv hm n count (rows nx n count) → record { lists = rows nx n count; places = n } ≡ a → (p : ℕ) → is_linked a.lists p ≡ true → (nx1 pv1 : List ℕ) → nx1 ≡ taken_next nx pv p → pv1 ≡ taken_prev nx pv p → Done nx1 pv1 (set hm p count) n count (record { lists = unlinked a.lists p; places = a.places })
  unlink_done tied seen p h nx1 pv1 nx_is pv_is =
      let at = at_seen tied seen in
      subst (λ (x : List ℕ). Done x pv1 (set hm p count) n count (arena (unlinked a.lists p) a.places)) (sym nx_is)
      (subst (λ (x : List ℕ). Done (taken_next nx pv p) x (set hm p count) n count (arena (unlinked a.lists p) a.places)) (sym pv_is)
      (sized a.places at.1 (tied_out at.0 p h)))

  pub front_done : Tied nx pv hm n count (rows nx n count) → record { lists = rows nx n count; places = n } ≡ a → (p l : ℕ) → l < length a.lists → p < a.places → is_linked a.lists p ≡ false → (nx1 pv1 : List ℕ) → nx1 ≡ put_next nx (n + l) p → pv1 ≡ put_prev nx pv (n + l) p → Done nx1 pv1 (set hm p l) n count (record { lists = pushed_front a.lists l p; places = a.places })
  front_done tied seen p l below bp free nx1 pv1 nx_is pv_is =
      let at = at_seen tied seen in
      let l_below : l < count = subst (λ (k : ℕ). l < k) at.0.linked.counted below in
      let p_below : p < n = subst (λ (k : ℕ). p < k) (sym at.1) bp in
      subst (λ (x : List ℕ). Done x pv1 (set hm p l) n count (arena (pushed_front a.lists l p) a.places)) (sym nx_is)
      (subst (λ (x : List ℕ). Done (put_next nx (n + l) p) x (set hm p l) n count (arena (pushed_front a.lists l p) a.places)) (sym pv_is)
      (sized a.places at.1 (tied_front at.0 p l l_below p_below free)))

  pub back_done : Tied nx pv hm n count (rows nx n count) → record { lists = rows nx n count; places = n } ≡ a → (p l : ℕ) → l < length a.lists → p < a.places → is_linked a.lists p ≡ false → (last : ℕ) → last ≡ get_or pv (n + l) 0 → (nx1 pv1 : List ℕ) → nx1 ≡ put_next nx last p → pv1 ≡ put_prev nx pv last p → Done nx1 pv1 (set hm p l) n count (record { lists = pushed_back a.lists l p; places = a.places })
  back_done tied seen p l below bp free last last_at nx1 pv1 nx_is pv_is =
      let at = at_seen tied seen in
      let l_below : l < count = subst (λ (k : ℕ). l < k) at.0.linked.counted below in
      let p_below : p < n = subst (λ (k : ℕ). p < k) (sym at.1) bp in
      subst (λ (x : List ℕ). Done x pv1 (set hm p l) n count (arena (pushed_back a.lists l p) a.places)) (sym (nx_is ∙ ap (λ (z : ℕ). put_next nx z p) last_at))
      (subst (λ (x : List ℕ). Done (put_next nx (get_or pv (n + l) 0) p) x (set hm p l) n count (arena (pushed_back a.lists l p) a.places)) (sym (pv_is ∙ ap (λ (z : ℕ). put_prev nx pv z p) last_at))
      (sized a.places at.1 (tied_back at.0 p l l_below p_below free)))

  -- in a move to the front, what the second half needs of what the first left
  pub half_done : Tied nx pv hm n count (rows nx n count) → record { lists = rows nx n count; places = n } ≡ a → (p : ℕ) → is_linked a.lists p ≡ true → (nx1 pv1 : List ℕ) → nx1 ≡ taken_next nx pv p → pv1 ≡ taken_prev nx pv p → (get_or hm p 0 < count) × Within nx1 pv1 hm (n + get_or hm p 0) × (p < length nx1) × (p < length pv1)
  half_done tied seen p h nx1 pv1 nx_is pv_is =
      let at = at_seen tied seen in
      let home = home_of at.0 p h in
      let taken : Linked nx1 pv1 hm n count (unlinked a.lists p) =
      subst (λ (x : List ℕ). Linked x pv1 hm n count (unlinked a.lists p)) (sym nx_is)
      (subst (λ (x : List ℕ). Linked (taken_next nx pv p) x hm n count (unlinked a.lists p)) (sym pv_is) (out at.0.linked p (get_or hm p 0) home.1 home.2)) in
      let p_below : p < n + count = omega (arith, home.0) in
      (home.1, within_sentinel taken (get_or hm p 0) home.1, subst (λ (k : ℕ). p < k) taken.long_next p_below, subst (λ (k : ℕ). p < k) taken.long_prev p_below)

  pub fronted_done : Tied nx pv hm n count (rows nx n count) → record { lists = rows nx n count; places = n } ≡ a → (p : ℕ) → is_linked a.lists p ≡ true → (nx1 pv1 nx2 pv2 : List ℕ) → nx1 ≡ taken_next nx pv p → pv1 ≡ taken_prev nx pv p → (s : ℕ) → s ≡ n + get_or hm p 0 → nx2 ≡ put_next nx1 s p → pv2 ≡ put_prev nx1 pv1 s p → Done nx2 pv2 hm n count (record { lists = fronted a.lists p; places = a.places })
  fronted_done tied seen p h nx1 pv1 nx2 pv2 nx_is pv_is s s_is nx2_is pv2_is =
      let at = at_seen tied seen in
      let d : ℕ = n + get_or hm p 0 in
      subst (λ (x : List ℕ). Done x pv2 hm n count (arena (fronted a.lists p) a.places)) (sym (nx2_is ∙ ap (λ (z : ℕ). put_next nx1 z p) s_is))
      (subst (λ (x : List ℕ). Done (put_next nx1 d p) x hm n count (arena (fronted a.lists p) a.places)) (sym (pv2_is ∙ ap (λ (z : ℕ). put_prev nx1 pv1 z p) s_is))
      (sized a.places at.1 (tied_fronted at.0 p h nx1 pv1 nx_is pv_is)))
