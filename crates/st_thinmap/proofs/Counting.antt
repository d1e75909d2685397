-- the table of uses: what its edits make of the counts
use Rattle.std.proofs.Common.{◌≡◌, ℕ, suc, ◌+◌, ◌<◌, ◌≤◌, List, [], ◌∷◌, length, get_or, set, cond, eqb, ltb, inl, inr, refl, sym, ◌∙◌, ap, subst, arith}
use Rattle.std.specs.List.{All, insert, remove}
use Rattle.std.proofs.lemmas.Bool.{cases_eq, cases_lt, eq-eqb, ne_eqb, cond-true, cond-false, lt-ltb, le-ltb}
use Rattle.std.proofs.lemmas.List.Elements.{All-head, All-tail}
use Rattle.st_thinmap.specs.declared.uses.Use.{Use}
use Rattle.st_thinmap.specs.Order.{RisesFrom}
use Rattle.st_thinmap.specs.inner.Rank.{rank}
use Rattle.st_thinmap.specs.inner.Uses.{place, count_in}
use Rattle.st_thinmap.proofs.Rising.{rises-lower}

here : (u : Use) (uses : List Use) (p : ℕ) → u.place ≡ p → count_in (u ∷ uses) p ≡ u.count
here u uses p e = cond-true (eqb u.place p) u.count (count_in uses p) (eq-eqb u.place p e)

there : (u : Use) (uses : List Use) (p : ℕ) → (u.place ≡ p → ⊥) → count_in (u ∷ uses) p ≡ count_in uses p
there u uses p ne = cond-false (eqb u.place p) u.count (count_in uses p) (ne_eqb u.place p ne)

lower_rank : (u : Use) (uses : List Use) (p : ℕ) → u.place < p → rank place p (u ∷ uses) ≡ suc (rank place p uses)
lower_rank u uses p less = cond-true (ltb u.place p) (suc (rank place p uses)) 0 (lt-ltb u.place p less)

first_rank : (u : Use) (uses : List Use) (p : ℕ) → p ≤ u.place → rank place p (u ∷ uses) ≡ 0
first_rank u uses p le = cond-false (ltb u.place p) (suc (rank place p uses)) 0 (le-ltb u.place p le)

-- below the first place nothing is counted
pub count-below : (low : ℕ) (uses : List Use) (p : ℕ) → RisesFrom place low uses → p < low → count_in uses p ≡ 0
count-below low [] p r h = refl
count-below low (u ∷ uses) p r h = there u uses p (λ e. absurd (omega (arith, r.0))) ∙ count-below (u.place + 1) uses p r.1 (omega (arith, r.0))

-- the count of a place, by what stands at its rank
pub count-at : (low : ℕ) (uses : List Use) (p : ℕ) (d : Use) → RisesFrom place low uses → rank place p uses < length uses → (get_or uses (rank place p uses) d).place ≡ p → count_in uses p ≡ (get_or uses (rank place p uses) d).count
count-at low [] p d r h e = absurd (omega arith)
count-at low (u ∷ uses) p d r h e = elim (cases_lt u.place p) [
  | inl less ↦
      let at = lower_rank u uses p less in
      there u uses p (λ q. absurd (omega arith))
      ∙ count-at (u.place + 1) uses p d r.1 (omega (arith, at)) (sym (ap (λ (i : ℕ). (get_or (u ∷ uses) i d).place) at) ∙ e)
      ∙ sym (ap (λ (i : ℕ). (get_or (u ∷ uses) i d).count) at)
  | inr le ↦
      let at = first_rank u uses p le in
      here u uses p (sym (ap (λ (i : ℕ). (get_or (u ∷ uses) i d).place) at) ∙ e) ∙ sym (ap (λ (i : ℕ). (get_or (u ∷ uses) i d).count) at)
]

pub count-none : (low : ℕ) (uses : List Use) (p : ℕ) (d : Use) → RisesFrom place low uses → (rank place p uses < length uses → (get_or uses (rank place p uses) d).place ≡ p → ⊥) → count_in uses p ≡ 0
count-none low [] p d r h = refl
count-none low (u ∷ uses) p d r h = elim (cases_lt u.place p) [
  | inl less ↦
      let at = lower_rank u uses p less in
      there u uses p (λ q. absurd (omega arith))
      ∙ count-none (u.place + 1) uses p d r.1 (λ w e. h (omega (arith, at)) (ap (λ (i : ℕ). (get_or (u ∷ uses) i d).place) at ∙ e))
  | inr le ↦
      let at = first_rank u uses p le in
      let ne : u.place ≡ p → ⊥ = λ e. h (omega (arith, at)) (ap (λ (i : ℕ). (get_or (u ∷ uses) i d).place) at ∙ e) in
      there u uses p ne ∙ count-below (u.place + 1) uses p r.1 (omega (arith, ne))
]

-- a place that has a use stands at its rank
pub stands : (low : ℕ) (uses : List Use) (p : ℕ) (d : Use) → RisesFrom place low uses → 0 < count_in uses p → (rank place p uses < length uses) × ((get_or uses (rank place p uses) d).place ≡ p)
stands low [] p d r h = absurd (omega arith)
stands low (u ∷ uses) p d r h = elim (cases_lt u.place p) [
  | inl less ↦
      let at = lower_rank u uses p less in
      let rest = stands (u.place + 1) uses p d r.1 (omega (arith, there u uses p (λ q. absurd (omega arith)))) in
      (omega (arith, at, rest.0), ap (λ (i : ℕ). (get_or (u ∷ uses) i d).place) at ∙ rest.1)
  | inr le ↦
      let at = first_rank u uses p le in
      elim (cases_eq u.place p) [
        | inl e ↦ (omega (arith, at), ap (λ (i : ℕ). (get_or (u ∷ uses) i d).place) at ∙ e)
        | inr ne ↦ absurd (omega (arith, there u uses p ne, count-below (u.place + 1) uses p r.1 (omega (arith, ne))))
      ]
]

-- what an edit at the rank makes of all counts
pub record Edited (old new : List Use) (p n low : ℕ) : Type 0 where
  pub rises : RisesFrom place low new
  pub own : count_in new p ≡ n
  pub other : (q : ℕ) → (q ≡ p → ⊥) → count_in new q ≡ count_in old q

pub set-edits : (low : ℕ) (uses : List Use) (p : ℕ) (x : Use) → RisesFrom place low uses → 0 < count_in uses p → x.place ≡ p → Edited uses (set uses (rank place p uses) x) p x.count low
set-edits low [] p x r h e = absurd (omega arith)
set-edits low (u ∷ uses) p x r h e = elim (cases_lt u.place p) [
  | inl less ↦
      let rest = set-edits (u.place + 1) uses p x r.1 (omega (arith, there u uses p (λ q. absurd (omega arith)))) e in
      let done : Edited (u ∷ uses) (u ∷ set uses (rank place p uses) x) p x.count low = record {
        rises = (r.0, rest.rises);
        own = there u (set uses (rank place p uses) x) p (λ q. absurd (omega arith)) ∙ rest.own;
        other = λ q ne. ap (λ n. cond (eqb u.place q) u.count n) (rest.other q ne);
      } in
      subst (λ (i : ℕ). Edited (u ∷ uses) (set (u ∷ uses) i x) p x.count low) (sym (lower_rank u uses p less)) done
  | inr le ↦
      let here_is : u.place ≡ p = elim (cases_eq u.place p) [
        | inl e2 ↦ e2
        | inr ne ↦ absurd (omega (arith, there u uses p ne, count-below (u.place + 1) uses p r.1 (omega (arith, ne))))
      ] in
      let done : Edited (u ∷ uses) (x ∷ uses) p x.count low = record {
        rises = (omega (arith, r.0), subst (λ (k : ℕ). RisesFrom place (k + 1) uses) (here_is ∙ sym e) r.1);
        own = here x uses p e;
        other = λ q ne. there x uses q (λ s. ne (sym s ∙ e)) ∙ sym (there u uses q (λ s. ne (sym s ∙ here_is)));
      } in
      subst (λ (i : ℕ). Edited (u ∷ uses) (set (u ∷ uses) i x) p x.count low) (sym (first_rank u uses p le)) done
]

pub insert-edits : (low : ℕ) (uses : List Use) (p : ℕ) (x : Use) → low ≤ p → RisesFrom place low uses → count_in uses p ≡ 0 → All (λ (u : Use). 0 < u.count) uses → x.place ≡ p → Edited uses (insert uses (rank place p uses) x) p x.count low
insert-edits low [] p x h r none some e = record {
  rises = (omega arith, tt);
  own = here x [] p e;
  other = λ q ne. there x [] q (λ s. ne (sym s ∙ e));
}
insert-edits low (u ∷ uses) p x h r none some e = elim (cases_lt u.place p) [
  | inl less ↦
      let rest = insert-edits (u.place + 1) uses p x (omega arith) r.1 (sym (there u uses p (λ q. absurd (omega arith))) ∙ none) (All-tail (λ (v : Use). 0 < v.count) u uses some) e in
      let done : Edited (u ∷ uses) (u ∷ insert uses (rank place p uses) x) p x.count low = record {
        rises = (r.0, rest.rises);
        own = there u (insert uses (rank place p uses) x) p (λ q. absurd (omega arith)) ∙ rest.own;
        other = λ q ne. ap (λ n. cond (eqb u.place q) u.count n) (rest.other q ne);
      } in
      subst (λ (i : ℕ). Edited (u ∷ uses) (insert (u ∷ uses) i x) p x.count low) (sym (lower_rank u uses p less)) done
  | inr le ↦
      let differs : u.place ≡ p → ⊥ = λ s. absurd (omega (arith, here u uses p s, All-head (λ (v : Use). 0 < v.count) u uses some)) in
      let done : Edited (u ∷ uses) (x ∷ u ∷ uses) p x.count low = record {
        rises = (omega arith, (omega (arith, differs), r.1));
        own = here x (u ∷ uses) p e;
        other = λ q ne. there x (u ∷ uses) q (λ s. ne (sym s ∙ e));
      } in
      subst (λ (i : ℕ). Edited (u ∷ uses) (insert (u ∷ uses) i x) p x.count low) (sym (first_rank u uses p le)) done
]

pub remove-edits : (low : ℕ) (uses : List Use) (p : ℕ) → RisesFrom place low uses → 0 < count_in uses p → Edited uses (remove uses (rank place p uses)) p 0 low
remove-edits low [] p r h = absurd (omega arith)
remove-edits low (u ∷ uses) p r h = elim (cases_lt u.place p) [
  | inl less ↦
      let rest = remove-edits (u.place + 1) uses p r.1 (omega (arith, there u uses p (λ q. absurd (omega arith)))) in
      let done : Edited (u ∷ uses) (u ∷ remove uses (rank place p uses)) p 0 low = record {
        rises = (r.0, rest.rises);
        own = there u (remove uses (rank place p uses)) p (λ q. absurd (omega arith)) ∙ rest.own;
        other = λ q ne. ap (λ n. cond (eqb u.place q) u.count n) (rest.other q ne);
      } in
      subst (λ (i : ℕ). Edited (u ∷ uses) (remove (u ∷ uses) i) p 0 low) (sym (lower_rank u uses p less)) done
  | inr le ↦
      let here_is : u.place ≡ p = elim (cases_eq u.place p) [
        | inl e2 ↦ e2
        | inr ne ↦ absurd (omega (arith, there u uses p ne, count-below (u.place + 1) uses p r.1 (omega (arith, ne))))
      ] in
      let done : Edited (u ∷ uses) uses p 0 low = record {
        rises = rises-lower place (u.place + 1) low uses (omega (arith, r.0)) r.1;
        own = count-below (u.place + 1) uses p r.1 (omega arith);
        other = λ q ne. sym (there u uses q (λ s. ne (sym s ∙ here_is)));
      } in
      subst (λ (i : ℕ). Edited (u ∷ uses) (remove (u ∷ uses) i) p 0 low) (sym (first_rank u uses p le)) done
]
