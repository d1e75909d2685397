-- the table has an entry for each cell: how many there are
use Rattle.std.proofs.Common.{◌≡◌, ◌≢◌, ℕ, suc, ◌+◌, ◌<◌, ◌≤◌, Bool, true, false, ◌||◌, List, [], ◌∷◌, length, map, get_or, cond, eqb, ltb, inl, inr, refl, sym, ◌∙◌, ap, ap₂, arith}
use Rattle.std.specs.List.{All, AllByRecursion, IsDistinct, count_by}
use Rattle.std.specs.Cmp.{IsEquivalence}
use Rattle.std.specs.Set.{distinct_count, is_member, unique_keys}
use Rattle.std.proofs.lemmas.Bool.{cases_eq, eq-eqb, ne_eqb, eqb-true, cond-true, cond-false, lt-ltb, or_left}
use Rattle.std.proofs.lemmas.List.Elements.{All-nil, All-cons, All-head, All-tail}
use Rattle.std.proofs.lemmas.List.{length-map}
use Rattle.std.proofs.lemmas.List.Sums.{sum_by-cons}
use Rattle.std.proofs.lemmas.Map.Made.{length-from_keys, distinct_count-le}
use Rattle.st_thinmap.specs.declared.mapping.Mapping.{Mapping}
use Rattle.st_thinmap.specs.declared.uses.Use.{Use}
use Rattle.st_thinmap.specs.Order.{RisesFrom}
use Rattle.st_thinmap.specs.Thin.{IsThin, AgreesWith, cells_of, used}
use Rattle.st_thinmap.specs.inner.Uses.{place, count_in}
use Rattle.st_thinmap.specs.inner.Tied.{Tied, lies_at, one}

pub eqb-symm : (x y : ℕ) → eqb x y ≡ eqb y x
eqb-symm x y = elim (cases_eq x y) [
  | inl e ↦ eq-eqb x y e ∙ sym (eq-eqb y x (sym e))
  | inr ne ↦ ne_eqb x y ne ∙ sym (ne_eqb y x (λ e. ne (sym e)))
]

equivalence : IsEquivalence eqb
equivalence = record {
  refl = λ x. eq-eqb x x refl;
  symm = eqb-symm;
  congr = λ x y z e. ap (λ (w : ℕ). eqb w z) (eqb-true x y e);
}

-- a place is in the table where it has a use
in_table : (low : ℕ) (uses : List Use) (q : ℕ) → RisesFrom place low uses → All (λ (u : Use). 0 < u.count) uses → is_member eqb (map place uses) q ≡ ltb 0 (count_in uses q)
in_table low [] q r some = refl
in_table low (u ∷ uses) q r some = elim (cases_eq u.place q) [
  | inl e ↦
      or_left (eqb q u.place) (is_member eqb (map place uses) q) (eq-eqb q u.place (sym e))
      ∙ sym (ap (ltb 0) (cond-true (eqb u.place q) u.count (count_in uses q) (eq-eqb u.place q e)) ∙ lt-ltb 0 u.count (All-head (λ (v : Use). 0 < v.count) u uses some))
  | inr ne ↦
      ap (λ (b : Bool). b || is_member eqb (map place uses) q) (ne_eqb q u.place (λ e. ne (sym e)))
      ∙ in_table (u.place + 1) uses q r.1 (All-tail (λ (v : Use). 0 < v.count) u uses some)
      ∙ sym (ap (ltb 0) (cond-false (eqb u.place q) u.count (count_in uses q) (ne_eqb u.place q ne)))
]

distinct : (low : ℕ) (uses : List Use) → RisesFrom place low uses → All (λ (u : Use). 0 < u.count) uses → IsDistinct eqb (map place uses)
unfolding IsDistinct
distinct low [] r some = tt
distinct low (u ∷ uses) r some = (apart u.place (u.place + 1) uses r.1 (omega arith), distinct (u.place + 1) uses r.1 (All-tail (λ (v : Use). 0 < v.count) u uses some))
  where
    apart : (p low : ℕ) (us : List Use) → RisesFrom place low us → p < low → AllByRecursion (λ y. eqb p y ≡ false) (map place us)
    apart p low [] r h = tt
    apart p low (v ∷ us) r h = (ne_eqb p v.place (λ e. absurd (omega (arith, r.0))), apart p (v.place + 1) us r.1 (omega (arith, r.0)))

in_rows : (rows : List Mapping) (q : ℕ) → is_member eqb (map (λ (m : Mapping). m.place) rows) q ≡ ltb 0 (count_by (lies_at q) rows)
in_rows [] q = refl
in_rows (m ∷ rows) q =
    let whole : count_by (lies_at q) (m ∷ rows) ≡ one (lies_at q m) + count_by (lies_at q) rows = sum_by-cons (λ (x : Mapping). cond (lies_at q x) 1 0) m rows in
    elim (cases_eq m.place q) [
      | inl e ↦
          let yes : one (lies_at q m) ≡ 1 = ap one (eq-eqb m.place q e) in
          or_left (eqb q m.place) (is_member eqb (map (λ (x : Mapping). x.place) rows) q) (eq-eqb q m.place (sym e)) ∙ sym (lt-ltb 0 (count_by (lies_at q) (m ∷ rows)) (omega arith))
      | inr ne ↦
          let no : one (lies_at q m) ≡ 0 = ap one (ne_eqb m.place q ne) in
          let same : count_by (lies_at q) (m ∷ rows) ≡ count_by (lies_at q) rows = omega arith in
          ap (λ (b : Bool). b || is_member eqb (map (λ (x : Mapping). x.place) rows) q) (ne_eqb q m.place (λ e. ne (sym e))) ∙ in_rows rows q ∙ sym (ap (ltb 0) same)
    ]

-- by cells there are as many as by places
member-agrees : (a : Mapping) (rows : List Mapping) → All (AgreesWith a) rows → is_member eqb (map (λ (m : Mapping). m.cell) rows) a.cell ≡ is_member eqb (map (λ (m : Mapping). m.place) rows) a.place
member-agrees a [] h = refl
member-agrees a (m ∷ rows) h =
    ap₂ (λ (b c : Bool). b || c) (All-head (AgreesWith a) m rows h) (member-agrees a rows (All-tail (AgreesWith a) m rows h))

count-agrees : (rows : List Mapping) → All (λ (a : Mapping). All (AgreesWith a) rows) rows → length (unique_keys eqb (map (λ (m : Mapping). m.cell) rows)) ≡ length (unique_keys eqb (map (λ (m : Mapping). m.place) rows))
count-agrees [] h = refl
count-agrees (m ∷ rows) h =
    let tail : All (λ (a : Mapping). All (AgreesWith a) rows) rows = λ k d w. All-tail (AgreesWith (get_or rows k d)) m rows (All-tail (λ (a : Mapping). All (AgreesWith a) (m ∷ rows)) m rows h k d w) in
    let head : All (AgreesWith m) rows = All-tail (AgreesWith m) m rows (All-head (λ (a : Mapping). All (AgreesWith a) (m ∷ rows)) m rows h) in
    by (is_member eqb (map (λ (x : Mapping). x.cell) rows) m.cell) (is_member eqb (map (λ (x : Mapping). x.place) rows) m.place) (member-agrees m rows head) (count-agrees rows tail)
  where
    by : (b c : Bool) → b ≡ c → length (unique_keys eqb (map (λ (m : Mapping). m.cell) rows)) ≡ length (unique_keys eqb (map (λ (m : Mapping). m.place) rows))
        → length (cond b (unique_keys eqb (map (λ (m : Mapping). m.cell) rows)) (m.cell ∷ unique_keys eqb (map (λ (m : Mapping). m.cell) rows))) ≡ length (cond c (unique_keys eqb (map (λ (m : Mapping). m.place) rows)) (m.place ∷ unique_keys eqb (map (λ (m : Mapping). m.place) rows)))
    by true true e h = h
    by false false e h = ap suc h
    by true false e h = absurd (let bad : true ≡ false = e in cc)
    by false true e h = absurd (let bad : false ≡ true = e in cc)

pub used-is : (uses : List Use) (rows : List Mapping) → Tied uses rows → All (λ (a : Mapping). All (AgreesWith a) rows) rows → length uses ≡ used rows
used-is uses rows t paired =
    let by_place : length (map place uses) ≡ distinct_count eqb (map (λ (m : Mapping). m.place) rows) =
    length-from_keys equivalence (map place uses) (map (λ (m : Mapping). m.place) rows) (distinct 0 uses t.0.0 t.0.1)
    (λ q. in_table 0 uses q t.0.0 t.0.1 ∙ ap (ltb 0) (t.1 q) ∙ sym (in_rows rows q)) in
    sym (length-map uses place) ∙ by_place ∙ sym (count-agrees rows paired)

pub used-few : (rows : List Mapping) → used rows ≤ length rows
used-few rows = omega (arith, distinct_count-le eqb (cells_of rows), length-map rows (λ (m : Mapping). m.cell))

-- the table has few entries
pub table_few : (uses : List Use) (rows : List Mapping) (next : ℕ) → Tied uses rows → IsThin rows next → length uses ≤ 32768
table_few uses rows next t thin = omega (arith, used-is uses rows t thin.paired, used-few rows, thin.few)

-- what nothing counts no mapping has
pub free-from : (p : ℕ) (uses : List Use) (rows : List Mapping) → Tied uses rows → count_in uses p ≡ 0 → All (λ (m : Mapping). m.place ≢ p) rows
free-from p uses rows t none = none_has rows (sym (t.1 p) ∙ none)
  where
    none_has : (rows : List Mapping) → count_by (lies_at p) rows ≡ 0 → All (λ (m : Mapping). m.place ≢ p) rows
    none_has [] h = All-nil (λ (m : Mapping). m.place ≢ p)
    none_has (m ∷ rows) h =
        let whole : count_by (lies_at p) (m ∷ rows) ≡ one (lies_at p m) + count_by (lies_at p) rows = sum_by-cons (λ (x : Mapping). cond (lies_at p x) 1 0) m rows in
        let ne : m.place ≢ p = λ e. (let yes : one (lies_at p m) ≡ 1 = ap one (eq-eqb m.place p e) in absurd (omega arith)) in
        All-cons (λ (m : Mapping). m.place ≢ p) m rows ne (none_has rows (omega arith))
