-- the table of uses after each call: it is a table still, and one count has changed by one
use Rattle.std.proofs.Common.{◌≡◌, ℕ, zero, suc, ◌+◌, ◌-◌, ◌<◌, ◌≤◌, List, [], ◌∷◌, length, get_or, take, drop, set, eqb, ltb, inl, inr, refl, sym, ◌∙◌, ap, subst, arith}
use Rattle.std.specs.List.{All, insert, remove}
use Rattle.std.proofs.lemmas.Bool.{cases_eq, cases_lt, eq-eqb, ne_eqb, cond-true, cond-false, lt-ltb, le-ltb}
use Rattle.std.proofs.lemmas.List.Elements.{All-cons, All-head, All-tail, All-append, All-set, All-take, All-drop}
use Rattle.st_thinmap.specs.declared.uses.Use.{Use}
use Rattle.st_thinmap.specs.Order.{RisesFrom}
use Rattle.st_thinmap.specs.inner.Rank.{rank}
use Rattle.st_thinmap.specs.inner.Uses.{place, count_in, one_if, IsTable, IsFreeAt}
use Rattle.st_thinmap.proofs.Rising.{rises-between, rank-is, rank-behind, at-rank, rank-none}
use Rattle.st_thinmap.proofs.Counting.{Edited, set-edits, insert-edits, remove-edits, stands, count-at, count-none}

IsUsed : Use → Type 0
IsUsed u = 0 < u.count

pub one_here : (p q : ℕ) → p ≡ q → one_if p q ≡ 1
one_here p q e = cond-true (eqb p q) 1 0 (eq-eqb p q e)

pub one_there : (p q : ℕ) → (p ≡ q → ⊥) → one_if p q ≡ 0
one_there p q ne = cond-false (eqb p q) 1 0 (ne_eqb p q ne)

pub rank_in : (uses : List Use) (p at : ℕ) → IsTable uses → 0 < count_in uses p → at ≡ rank place p uses → at < length uses
rank_in uses p at t h e = omega (arith, (stands 0 uses p (record { place = 0; count = 0 }) t.0 h).0)

pub count_read : (uses : List Use) (p at : ℕ) (d : Use) → IsTable uses → 0 < count_in uses p → at ≡ rank place p uses → (get_or uses at d).count ≡ count_in uses p
count_read uses p at d t h e =
    let s = stands 0 uses p d t.0 h in
    ap (λ (i : ℕ). (get_or uses i d).count) e ∙ sym (count-at 0 uses p d t.0 s.0 s.1)

pub count_found : (uses : List Use) (p at : ℕ) (d : Use) → IsTable uses → at ≡ rank place p uses → at < length uses → (get_or uses at d).place ≡ p → (get_or uses at d).count ≡ count_in uses p
count_found uses p at d t e h same =
    ap (λ (i : ℕ). (get_or uses i d).count) e ∙ sym (count-at 0 uses p d t.0 (omega arith) (sym (ap (λ (i : ℕ). (get_or uses i d).place) e) ∙ same))

pub count_missed : (uses : List Use) (p at : ℕ) (d : Use) → IsTable uses → at ≡ rank place p uses → (at < length uses → (get_or uses at d).place ≡ p → ⊥) → 0 ≡ count_in uses p
count_missed uses p at d t e h =
    sym (count-none 0 uses p d t.0 (λ w s. h (omega arith) (ap (λ (i : ℕ). (get_or uses i d).place) e ∙ s)))

-- the counts after an edit
pub record Turned (new : List Use) (count : ℕ → ℕ) : Type 0 where
  pub table : IsTable new
  pub counts : (q : ℕ) → count_in new q ≡ count q

more_there : (old new : List Use) (p n : ℕ) → Edited old new p n 0 → n ≡ count_in old p + 1 → (q : ℕ) → count_in new q ≡ count_in old q + one_if p q
more_there old new p n e more q = elim (cases_eq p q) [
  | inl s ↦ ap (count_in new) (sym s) ∙ omega (arith, e.own, one_here p q s, ap (count_in old) s)
  | inr ne ↦ e.other q (λ s. ne (sym s)) ∙ omega (arith, one_there p q ne)
]

less_there : (old new : List Use) (p n : ℕ) → Edited old new p n 0 → n + 1 ≡ count_in old p → (q : ℕ) → count_in new q + one_if p q ≡ count_in old q
less_there old new p n e less q = elim (cases_eq p q) [
  | inl s ↦
      let own : count_in new q ≡ n = sym (ap (count_in new) s) ∙ e.own in
      omega (arith, one_here p q s, ap (count_in old) s)
  | inr ne ↦ omega (arith, one_there p q ne, e.other q (λ s. ne (sym s)))
]

pub raised : (uses : List Use) (p at c : ℕ) → IsTable uses → 0 < count_in uses p → at ≡ rank place p uses → c ≡ count_in uses p + 1
    → IsTable (set uses at (record { place = p; count = c })) × ((q : ℕ) → count_in (set uses at (record { place = p; count = c })) q ≡ count_in uses q + one_if p q)
unfolding IsUsed
raised uses p at c t h at_is c_is =
    let x : Use = record { place = p; count = c } in
    let e = subst (λ (i : ℕ). Edited uses (set uses i x) p c 0) (sym at_is) (set-edits 0 uses p x t.0 h refl) in
    ((e.rises, All-set IsUsed uses at x (omega arith) t.1), more_there uses (set uses at x) p c e c_is)

pub lowered : (uses : List Use) (p at c : ℕ) → IsTable uses → 0 < count_in uses p → at ≡ rank place p uses → c + 1 ≡ count_in uses p → 0 < c
    → IsTable (set uses at (record { place = p; count = c })) × ((q : ℕ) → count_in (set uses at (record { place = p; count = c })) q + one_if p q ≡ count_in uses q)
unfolding IsUsed
lowered uses p at c t h at_is c_is some =
    let x : Use = record { place = p; count = c } in
    let e = subst (λ (i : ℕ). Edited uses (set uses i x) p c 0) (sym at_is) (set-edits 0 uses p x t.0 h refl) in
    ((e.rises, All-set IsUsed uses at x some t.1), less_there uses (set uses at x) p c e c_is)

pub ended : (uses : List Use) (p at : ℕ) → IsTable uses → at ≡ rank place p uses → count_in uses p ≡ 1
    → IsTable (remove uses at) × ((q : ℕ) → count_in (remove uses at) q + one_if p q ≡ count_in uses q)
unfolding IsUsed
ended uses p at t at_is one =
    let e = subst (λ (i : ℕ). Edited uses (remove uses i) p 0 0) (sym at_is) (remove-edits 0 uses p t.0 (omega arith)) in
    ((e.rises, All-append IsUsed (take at uses) (drop (suc at) uses) (All-take IsUsed at uses t.1) (All-drop IsUsed (suc at) uses t.1)), less_there uses (remove uses at) p 0 e (omega arith))

pub begun : (uses new : List Use) (p at : ℕ) → IsTable uses → at ≡ rank place p uses → count_in uses p ≡ 0 → new ≡ insert uses at (record { place = p; count = 1 })
    → IsTable new × ((q : ℕ) → count_in new q ≡ count_in uses q + one_if p q)
unfolding IsUsed
begun uses new p at t at_is none new_is =
    let x : Use = record { place = p; count = 1 } in
    let e = subst (λ (i : ℕ). Edited uses (insert uses i x) p 1 0) (sym at_is) (insert-edits 0 uses p x (omega arith) t.0 none t.1 refl) in
    let all : All IsUsed (insert uses at x) =
    All-append IsUsed (take at uses) (x ∷ drop at uses) (All-take IsUsed at uses t.1) (All-cons IsUsed x (drop at uses) (omega arith) (All-drop IsUsed at uses t.1)) in
    let done : IsTable (insert uses at x) × ((q : ℕ) → count_in (insert uses at x) q ≡ count_in uses q + one_if p q) =
    ((e.rises, all), more_there uses (insert uses at x) p 1 e (omega arith)) in
    subst (λ (us : List Use). IsTable us × ((q : ℕ) → count_in us q ≡ count_in uses q + one_if p q)) (sym new_is) done

same_at : (uses : List Use) (i : ℕ) (d e : Use) → i < length uses → (get_or uses i d).place ≡ (get_or uses i e).place
same_at [] i d e h = absurd (omega arith)
same_at (u ∷ uses) zero d e h = refl
same_at (u ∷ uses) (suc i) d e h = same_at uses i d e (omega arith)

-- the search for a free place: `low` is the first number that isn't known to be there
low_rank : (uses : List Use) (p taken : ℕ) → IsTable uses → taken ≤ p → rank place p uses ≡ p - taken → (m : ℕ) (d : Use) → p ≤ m → m - taken < length uses → (get_or uses (m - taken) d).place ≡ m → rank place m uses ≡ m - taken
low_rank uses p taken t within is m d from inside same =
    sym (rank-is place m uses (m - taken) (
      λ j e a b. omega (arith, rises-between place 0 uses j (m - taken) e t.0 (omega arith) inside, same_at uses (m - taken) e d inside),
      λ j e a b. omega (arith, rises-between place 0 uses (m - taken) j e t.0 a b, same_at uses (m - taken) e d inside),
    )
    (omega arith))

pub low_up : (uses : List Use) (p taken : ℕ) → IsTable uses → taken ≤ p → rank place p uses ≡ p - taken → (m : ℕ) (d : Use) → p ≤ m → m - taken < length uses → (get_or uses (m - taken) d).place ≡ m → rank place (m + 1) uses ≡ (m + 1) - taken
low_up uses p taken t within is m d from inside same =
    let at_is : rank place m uses ≡ m - taken = low_rank uses p taken t within is m d from inside same in
    let here : (get_or uses (rank place m uses) d).place ≡ m = ap (λ (i : ℕ). (get_or uses i d).place) at_is ∙ same in
    omega (arith, rank-behind place 0 m uses d t.0 (omega arith) here)

-- from `high` on nothing stands at its own number
pub high_down : (uses : List Use) (p taken m : ℕ) (d e : Use) → IsTable uses → taken ≤ p → rank place p uses ≡ p - taken → p ≤ m → m - taken < length uses → ((get_or uses (m - taken) d).place ≡ m → ⊥) → m < (get_or uses (m - taken) e).place
high_down uses p taken m d e t within is from inside other =
    let low : p ≤ (get_or uses (rank place p uses) d).place = at-rank place 0 p uses d t.0 (omega arith) in
    let at : (get_or uses (rank place p uses) d).place ≡ (get_or uses (p - taken) d).place = ap (λ (i : ℕ). (get_or uses i d).place) is in
    let up = rises-between place 0 uses (p - taken) (m - taken) d t.0 (omega arith) inside in
    omega (arith, other, same_at uses (m - taken) d e inside)

pub free_there : (uses : List Use) (p at : ℕ) (d : Use) → IsTable uses → rank place p uses ≡ at → (at < length uses → p < (get_or uses at d).place) → count_in uses p ≡ 0
free_there uses p at d t is h =
    count-none 0 uses p d t.0 (λ w s. absurd (omega (arith, h (omega arith), ap (λ (i : ℕ). (get_or uses i d).place) is)))

-- a place that isn't in use changes no rank
pub rank_over : (low : ℕ) (uses : List Use) (p : ℕ) → RisesFrom place low uses → All (λ (u : Use). 0 < u.count) uses → count_in uses p ≡ 0 → rank place (p + 1) uses ≡ rank place p uses
rank_over low [] p r some none = refl
rank_over low (u ∷ uses) p r some none = elim (cases_lt u.place p) [
  | inl less ↦
      let rest : count_in uses p ≡ 0 = sym (cond-false (eqb u.place p) u.count (count_in uses p) (ne_eqb u.place p (λ e. absurd (omega arith)))) ∙ none in
      cond-true (ltb u.place (p + 1)) (suc (rank place (p + 1) uses)) 0 (lt-ltb u.place (p + 1) (omega arith))
      ∙ ap suc (rank_over (u.place + 1) uses p r.1 (All-tail (λ (v : Use). 0 < v.count) u uses some) rest)
      ∙ sym (cond-true (ltb u.place p) (suc (rank place p uses)) 0 (lt-ltb u.place p less))
  | inr le ↦
      let differs : u.place ≡ p → ⊥ =
      λ e. absurd (omega (arith, none, cond-true (eqb u.place p) u.count (count_in uses p) (eq-eqb u.place p e), All-head (λ (v : Use). 0 < v.count) u uses some)) in
      cond-false (ltb u.place (p + 1)) (suc (rank place (p + 1) uses)) 0 (le-ltb u.place (p + 1) (omega (arith, differs)))
      ∙ sym (cond-false (ltb u.place p) (suc (rank place p uses)) 0 (le-ltb u.place p le))
]

pub from_start : (uses : List Use) → IsTable uses → IsFreeAt uses 0 0
from_start uses t = rank-none place 0 0 uses t.0 (omega arith)

pub from_behind : (uses : List Use) (g : ℕ) → IsTable uses → count_in uses g ≡ 0 → IsFreeAt uses g (g - 0) → IsFreeAt uses (g + 1) (g + 1 - 1)
from_behind uses g t none at = omega (arith, rank_over 0 uses g t.0 t.1 none, at)
