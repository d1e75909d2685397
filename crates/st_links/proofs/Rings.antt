-- one ring in the arrays, and what taking a node out and putting one in does to it and to the others
use Rattle.std.proofs.Common.{◌≡◌, ℕ, ◌<◌, ◌≢◌, true, false, List, ◌∷◌, length, get_or, set, ◌⊎◌, inl, inr, sym, ◌∙◌, ap, subst}
use Rattle.std.proofs.lemmas.Bool.{cases_eq}
use Rattle.std.proofs.lemmas.List.{get_or-set_other, get_or-set_same, length-set}
use Rattle.st_limits.specs.Cache.{has, without, AreDistinct}
use Rattle.st_limits.proofs.Members.{has_head, has_tail, differ_by_list, without_there, has_of_without, AreDistinct-without}
use Rattle.st_links.specs.Ring.{Ring, first_or, follower, put_next, put_prev}
use Rattle.st_links.proofs.Follow.{follower_here, follower_in, follower-without_at, follower-without, inserted, follower-inserted_before, follower-inserted_at, follower-inserted, has_of_inserted, AreDistinct-inserted, leader, leader_in, follower-leader, last_from, last_from_in, follower-last}

-- a read after a write, by whether it is at the same place
at_same : (xs : List ℕ) (i j v : ℕ) → j ≡ i → i < length xs → get_or (set xs i v) j 0 ≡ v
at_same xs i j v e h = ap (λ (k : ℕ). get_or (set xs i v) k 0) e ∙ get_or-set_same xs i v 0 h

module _ {nx pv hm : List ℕ} {m l d : ℕ} {xs : List ℕ} where
  -- what follows a node of the ring is one
  pub next_in : Ring nx pv hm m l d xs → (y : ℕ) → has y (d ∷ xs) ≡ true → has (get_or nx y 0) (d ∷ xs) ≡ true
  next_in ring y h =
      elim (follower_in d y (d ∷ xs)) [
        | inl e ↦ ap (λ (z : ℕ). has z (d ∷ xs)) (ring.forth y h ∙ e) ∙ has_head d xs
        | inr t ↦ ap (λ (z : ℕ). has z (d ∷ xs)) (ring.forth y h) ∙ t
      ]

  -- what stands before a node
  pub prev_is : Ring nx pv hm m l d xs → (p : ℕ) → has p xs ≡ true → get_or pv p 0 ≡ leader d p xs
  prev_is ring p h =
      let e : get_or nx (leader d p xs) 0 ≡ p = ring.forth (leader d p xs) (leader_in d p xs) ∙ follower-leader d d p xs ring.once h in
      ap (λ (z : ℕ). get_or pv z 0) (sym e) ∙ ring.back (leader d p xs) (leader_in d p xs)

  pub prev_in : Ring nx pv hm m l d xs → (p : ℕ) → has p xs ≡ true → has (get_or pv p 0) (d ∷ xs) ≡ true
  prev_in ring p h = ap (λ (z : ℕ). has z (d ∷ xs)) (prev_is ring p h) ∙ leader_in d p xs

  pub next_of_prev : Ring nx pv hm m l d xs → (p : ℕ) → has p xs ≡ true → get_or nx (get_or pv p 0) 0 ≡ p
  next_of_prev ring p h =
      ap (λ (z : ℕ). get_or nx z 0) (prev_is ring p h) ∙ ring.forth (leader d p xs) (leader_in d p xs) ∙ follower-leader d d p xs ring.once h

  -- the last stands before the sentinel
  pub last_is : Ring nx pv hm m l d xs → get_or pv d 0 ≡ last_from d xs
  last_is ring =
      let e : get_or nx (last_from d xs) 0 ≡ d = ring.forth (last_from d xs) (last_from_in d xs) ∙ follower-last d d xs ring.once in
      ap (λ (z : ℕ). get_or pv z 0) (sym e) ∙ ring.back (last_from d xs) (last_from_in d xs)

  pub first_is : Ring nx pv hm m l d xs → get_or nx d 0 ≡ first_or d xs
  first_is ring = ring.forth d (has_head d xs) ∙ follower_here d d xs

  pub sentinel_differs : Ring nx pv hm m l d xs → (p : ℕ) → has p xs ≡ true → p ≡ d → ⊥
  sentinel_differs ring p h = differ_by_list p d xs h ring.once.0

  -- a node is taken out of its ring
  pub taken_out : Ring nx pv hm m l d xs → m ≡ length nx → m ≡ length pv → (p : ℕ) → has p xs ≡ true → Ring (set nx (get_or pv p 0) (get_or nx p 0)) (set pv (get_or nx p 0) (get_or pv p 0)) hm m l d (without p xs)
  taken_out ring long_nx long_pv p h =
      let pd : p ≡ d → ⊥ = sentinel_differs ring p h in
      let p_in : has p (d ∷ xs) ≡ true = has_tail p d xs h in
      let a : ℕ = get_or pv p 0 in
      let b : ℕ = get_or nx p 0 in
      let ring_is : without p (d ∷ xs) ≡ d ∷ without p xs = without_there p d xs pd in
      let was : (y : ℕ) → has y (d ∷ without p xs) ≡ true → (has y (d ∷ xs) ≡ true) × (y ≡ p → ⊥) =
      λ (y : ℕ) (k : has y (d ∷ without p xs) ≡ true). has_of_without y p (d ∷ xs) (ap (has y) ring_is ∙ k) in
      let a_below : a < length nx = subst (λ (k : ℕ). a < k) long_nx (ring.inside a (prev_in ring p h)).0 in
      let b_below : b < length pv = subst (λ (k : ℕ). b < k) long_pv (ring.inside b (next_in ring p p_in)).0 in
      record {
        inside = λ (y : ℕ) (k : has y (d ∷ without p xs) ≡ true). ring.inside y (was y k).0;
        once = subst AreDistinct ring_is (AreDistinct-without p (d ∷ xs) ring.once);
        forth = λ (y : ℕ) (k : has y (d ∷ without p xs) ≡ true).
            let w = was y k in
            elim (cases_eq (get_or nx y 0) p) [
              | inl e ↦
                  let ya : y ≡ a = sym (ring.back y w.0) ∙ ap (λ (z : ℕ). get_or pv z 0) e in
                  at_same nx a y b ya a_below
                  ∙ ring.forth p p_in
                  ∙ sym (follower-without_at d p y (d ∷ xs) ring.once pd w.1 w.0 (sym (ring.forth y w.0) ∙ e))
                  ∙ ap (λ (zs : List ℕ). follower d zs y) ring_is
              | inr ne ↦
                  let ya : y ≢ a = λ (q : y ≡ a). ne (ap (λ (z : ℕ). get_or nx z 0) q ∙ next_of_prev ring p h) in
                  get_or-set_other nx a y b 0 ya
                  ∙ ring.forth y w.0
                  ∙ sym (follower-without d p y (d ∷ xs) ring.once w.1 (λ (q : follower d (d ∷ xs) y ≡ p). ne (ring.forth y w.0 ∙ q)))
                  ∙ ap (λ (zs : List ℕ). follower d zs y) ring_is
            ];
        back = λ (y : ℕ) (k : has y (d ∷ without p xs) ≡ true).
            let w = was y k in
            elim (cases_eq y a) [
              | inl e ↦ ap (λ (z : ℕ). get_or (set pv b a) z 0) (at_same nx a y b e a_below) ∙ get_or-set_same pv b a 0 b_below ∙ sym e
              | inr ne ↦
                  let same : get_or (set nx a b) y 0 ≡ get_or nx y 0 = get_or-set_other nx a y b 0 ne in
                  let nb : get_or nx y 0 ≢ b = λ (q : get_or nx y 0 ≡ b). w.1 (sym (ring.back y w.0) ∙ ap (λ (z : ℕ). get_or pv z 0) q ∙ ring.back p p_in) in
                  ap (λ (z : ℕ). get_or (set pv b a) z 0) same ∙ get_or-set_other pv b (get_or nx y 0) a 0 nb ∙ ring.back y w.0
            ];
      }

-- the nodes of two rings differ
pub in_different : {nx pv hm : List ℕ} {m k l d e : ℕ} {xs ys : List ℕ} → Ring nx pv hm m k e ys → Ring nx pv hm m l d xs → (k ≡ l → ⊥) → (y : ℕ) → has y (e ∷ ys) ≡ true → (z : ℕ) → has z (d ∷ xs) ≡ true → y ≢ z
in_different {hm = hm} other ring kl y i z j q = kl (sym (other.inside y i).1 ∙ ap (λ (w : ℕ). get_or hm w 0) q ∙ (ring.inside z j).1)

-- taking it out leaves the ring of another list
pub kept_out : {nx pv hm : List ℕ} {m k d e : ℕ} {ys : List ℕ} → Ring nx pv hm m k e ys → (l : ℕ) (xs : List ℕ) → Ring nx pv hm m l d xs → (k ≡ l → ⊥) → (p : ℕ) → has p xs ≡ true → Ring (set nx (get_or pv p 0) (get_or nx p 0)) (set pv (get_or nx p 0) (get_or pv p 0)) hm m k e ys
kept_out {nx} {pv} {hm} {m} {k} {d} {e} {ys} other l xs ring kl p h =
    let a : ℕ = get_or pv p 0 in
    let b : ℕ = get_or nx p 0 in
    let apart : (y : ℕ) → has y (e ∷ ys) ≡ true → (z : ℕ) → has z (d ∷ xs) ≡ true → y ≢ z = in_different other ring kl in
    let same : (y : ℕ) → has y (e ∷ ys) ≡ true → get_or (set nx a b) y 0 ≡ get_or nx y 0 =
    λ (y : ℕ) (i : has y (e ∷ ys) ≡ true). get_or-set_other nx a y b 0 (apart y i a (prev_in ring p h)) in
    record {
      inside = other.inside;
      once = other.once;
      forth = λ (y : ℕ) (i : has y (e ∷ ys) ≡ true). same y i ∙ other.forth y i;
      back = λ (y : ℕ) (i : has y (e ∷ ys) ≡ true).
          ap (λ (z : ℕ). get_or (set pv b a) z 0) (same y i)
          ∙ get_or-set_other pv b (get_or nx y 0) a 0 (apart (get_or nx y 0) (next_in other y i) b (next_in ring p (has_tail p d xs h)))
          ∙ other.back y i;
    }

-- a node that stands in no ring is put into one
pub put_in : {nx pv hm : List ℕ} {m l d : ℕ} {xs : List ℕ} → Ring nx pv hm m l d xs → m ≡ length nx → m ≡ length pv → (a p : ℕ) (ys : List ℕ) → has a (d ∷ xs) ≡ true → has p (d ∷ xs) ≡ false → p < m → get_or hm p 0 ≡ l → inserted a p (d ∷ xs) ≡ d ∷ ys → Ring (put_next nx a p) (put_prev nx pv a p) hm m l d ys
put_in {nx} {pv} {hm} {m} {l} {d} {xs} ring long_nx long_pv a p ys ha lacks below home ring_is =
    let c : ℕ = get_or nx a 0 in
    let nx1 : List ℕ = set nx p c in
    let pv1 : List ℕ = set pv p a in
    let pa : p ≢ a = λ (q : p ≡ a). differ_by_list a p (d ∷ xs) ha lacks (sym q) in
    let c_in : has c (d ∷ xs) ≡ true = next_in ring a ha in
    let a_below : a < length nx1 = subst (λ (k : ℕ). a < k) (long_nx ∙ sym (length-set nx p c)) (ring.inside a ha).0 in
    let c_below : c < length pv1 = subst (λ (k : ℕ). c < k) (long_pv ∙ sym (length-set pv p a)) (ring.inside c c_in).0 in
    let p_below_nx : p < length nx = subst (λ (k : ℕ). p < k) long_nx below in
    let p_below_pv : p < length pv = subst (λ (k : ℕ). p < k) long_pv below in
    let was : (y : ℕ) → has y (d ∷ ys) ≡ true → (y ≡ p) ⊎ (has y (d ∷ xs) ≡ true) =
    λ (y : ℕ) (k : has y (d ∷ ys) ≡ true). has_of_inserted a p y (d ∷ xs) (ap (has y) ring_is ∙ k) in
    let stays : (y : ℕ) → has y (d ∷ ys) ≡ true → (y ≡ p → ⊥) → has y (d ∷ xs) ≡ true =
    λ (y : ℕ) (k : has y (d ∷ ys) ≡ true) (yp : y ≡ p → ⊥). elim (was y k) [ inl q ↦ absurd (yp q) | inr t ↦ t ] in
    let next_p : get_or (set nx1 a p) p 0 ≡ c = get_or-set_other nx1 a p p 0 pa ∙ get_or-set_same nx p c 0 p_below_nx in
    let next_other : (y : ℕ) → (y ≡ a → ⊥) → (y ≡ p → ⊥) → get_or (set nx1 a p) y 0 ≡ get_or nx y 0 =
    λ (y : ℕ) (ya : y ≡ a → ⊥) (yp : y ≡ p → ⊥). get_or-set_other nx1 a y p 0 ya ∙ get_or-set_other nx p y c 0 yp in
    record {
      inside = λ (y : ℕ) (k : has y (d ∷ ys) ≡ true).
          elim (was y k) [
            | inl e ↦ (subst (λ (z : ℕ). z < m) (sym e) below, ap (λ (z : ℕ). get_or hm z 0) e ∙ home)
            | inr t ↦ ring.inside y t
          ];
      once = subst AreDistinct ring_is (AreDistinct-inserted a p (d ∷ xs) ring.once lacks);
      forth = λ (y : ℕ) (k : has y (d ∷ ys) ≡ true).
          let to : follower d (inserted a p (d ∷ xs)) y ≡ follower d (d ∷ ys) y = ap (λ (zs : List ℕ). follower d zs y) ring_is in
          let read = λ (z : ℕ). get_or (set nx1 a p) z 0 in
          let follow = λ (z : ℕ). follower d (inserted a p (d ∷ xs)) z in
          elim (cases_eq y p) [
            | inl e ↦ ap read e ∙ next_p ∙ ring.forth a ha ∙ sym (follower-inserted_at d a p (d ∷ xs) ha lacks) ∙ ap follow (sym e) ∙ to
            | inr yp ↦
                elim (cases_eq y a) [
                  | inl e ↦ at_same nx1 a y p e a_below ∙ sym (follower-inserted_before d a p (d ∷ xs) ha) ∙ ap follow (sym e) ∙ to
                  | inr ya ↦ next_other y ya yp ∙ ring.forth y (stays y k yp) ∙ sym (follower-inserted d a p y (d ∷ xs) ya yp) ∙ to
                ]
          ];
      back = λ (y : ℕ) (k : has y (d ∷ ys) ≡ true).
          let read = λ (z : ℕ). get_or (set pv1 c p) z 0 in
          let from = λ (z : ℕ). get_or (set nx1 a p) z 0 in
          let pc : p ≢ c = λ (q : p ≡ c). differ_by_list c p (d ∷ xs) c_in lacks (sym q) in
          elim (cases_eq y p) [
            | inl e ↦ ap read (ap from e ∙ next_p) ∙ get_or-set_same pv1 c p 0 c_below ∙ sym e
            | inr yp ↦
                elim (cases_eq y a) [
                  | inl e ↦
                      ap read (at_same nx1 a y p e a_below) ∙ get_or-set_other pv1 c p p 0 pc ∙ get_or-set_same pv p a 0 p_below_pv ∙ sym e
                  | inr ya ↦
                      let t : has y (d ∷ xs) ≡ true = stays y k yp in
                      let nc : get_or nx y 0 ≢ c = λ (q : get_or nx y 0 ≡ c). ya (sym (ring.back y t) ∙ ap (λ (z : ℕ). get_or pv z 0) q ∙ ring.back a ha) in
                      let np : get_or nx y 0 ≢ p = differ_by_list (get_or nx y 0) p (d ∷ xs) (next_in ring y t) lacks in
                      ap read (next_other y ya yp) ∙ get_or-set_other pv1 c (get_or nx y 0) p 0 nc ∙ get_or-set_other pv p (get_or nx y 0) a 0 np ∙ ring.back y t
                ]
          ];
    }

-- putting it in leaves the ring of another list
pub kept_in : {nx pv hm : List ℕ} {m k d e : ℕ} {ys : List ℕ} → Ring nx pv hm m k e ys → (l : ℕ) (xs : List ℕ) → Ring nx pv hm m l d xs → (k ≡ l → ⊥) → (a p : ℕ) → has a (d ∷ xs) ≡ true → has p (e ∷ ys) ≡ false → Ring (put_next nx a p) (put_prev nx pv a p) hm m k e ys
kept_in {nx} {pv} {hm} {m} {k} {d} {e} {ys} other l xs ring kl a p ha lacks =
    let c : ℕ = get_or nx a 0 in
    let same : (y : ℕ) → has y (e ∷ ys) ≡ true → get_or (set (set nx p c) a p) y 0 ≡ get_or nx y 0 =
    λ (y : ℕ) (i : has y (e ∷ ys) ≡ true).
    get_or-set_other (set nx p c) a y p 0 (in_different other ring kl y i a ha)
    ∙ get_or-set_other nx p y c 0 (differ_by_list y p (e ∷ ys) i lacks) in
    record {
      inside = other.inside;
      once = other.once;
      forth = λ (y : ℕ) (i : has y (e ∷ ys) ≡ true). same y i ∙ other.forth y i;
      back = λ (y : ℕ) (i : has y (e ∷ ys) ≡ true).
          let n : ℕ = get_or nx y 0 in
          let n_in : has n (e ∷ ys) ≡ true = next_in other y i in
          ap (λ (z : ℕ). get_or (set (set pv p a) c p) z 0) (same y i)
          ∙ get_or-set_other (set pv p a) c n p 0 (in_different other ring kl n n_in c (next_in ring a ha))
          ∙ get_or-set_other pv p n a 0 (differ_by_list n p (e ∷ ys) n_in lacks)
          ∙ other.back y i;
    }

-- a node that stands in no ring names another list
pub homed : {nx pv hm : List ℕ} {m l d : ℕ} {xs : List ℕ} → Ring nx pv hm m l d xs → (p v : ℕ) → has p (d ∷ xs) ≡ false → Ring nx pv (set hm p v) m l d xs
homed {nx} {pv} {hm} {m} {l} {d} {xs} ring p v lacks = record {
  inside = λ (y : ℕ) (k : has y (d ∷ xs) ≡ true).
      let was = ring.inside y k in
      (was.0, get_or-set_other hm p y v 0 (differ_by_list y p (d ∷ xs) k lacks) ∙ was.1);
  once = ring.once;
  forth = ring.forth;
  back = ring.back;
}
