-- mappings of a filesystem once more, for another one
use Rattle.std.proofs.Common.{◌≡◌, ℕ, zero, suc, ◌+◌, ◌-◌, ◌^◌, ◌<◌, ◌≤◌, List, [], ◌∷◌, ◌++◌, length, get_or, map, take, drop, cond, eqb, inl, inr, refl, sym, ◌∙◌, ap, subst, arith}
use Rattle.std.specs.List.{All, count_by}
use Rattle.std.proofs.lemmas.Bool.{cases_eq, eq-eqb, ne_eqb, cond-true, cond-false}
use Rattle.std.proofs.lemmas.List.{append_assoc, length-append, length-drop, length-map, map_more, get_or_append_left, get_or-drop}
use Rattle.std.proofs.lemmas.List.Elements.{All-head, All-tail, All-append, All-map, All-filter}
use Rattle.std.proofs.lemmas.List.Sums.{sum_by-cons, sum_by-append}
use Rattle.st_thinmap.specs.declared.mapping.Mapping.{Mapping}
use Rattle.st_thinmap.specs.declared.uses.Use.{Use}
use Rattle.st_thinmap.specs.Order.{RisesFrom, key, key_of}
use Rattle.st_thinmap.specs.Thin.{AgreesWith, IsThin, of_fs, with_fs}
use Rattle.st_thinmap.specs.inner.Uses.{count_in, one_if, IsTable}
use Rattle.st_thinmap.specs.inner.Tied.{Tied, lies_at, one}
use Rattle.st_thinmap.proofs.Rising.{rises-lower}

pub copied_more : (old now : List Mapping) (start i fs : ℕ) (row : Mapping) → start ≤ i → i < length old → now ≡ old ++ map (with_fs fs) (take (i - start) (drop start old)) → row ≡ get_or now i row
    → now ++ with_fs fs row ∷ [] ≡ old ++ map (with_fs fs) (take (i + 1 - start) (drop start old))
copied_more old now start i fs row from within now_is read =
    let rest : List Mapping = drop start old in
    let j : ℕ = i - start in
    let more : List Mapping = map (with_fs fs) (take j rest) in
    let own : row ≡ get_or old i row = read ∙ ap (λ (xs : List Mapping). get_or xs i row) now_is ∙ get_or_append_left old more row i within in
    let there : get_or rest j row ≡ get_or old i row = get_or-drop start old j row ∙ ap (λ (n : ℕ). get_or old n row) (omega arith) in
    let step : map (with_fs fs) (take (j + 1) rest) ≡ map (with_fs fs) (take j rest) ++ with_fs fs (get_or rest j row) ∷ [] = map_more (with_fs fs) rest j row (omega (arith, length-drop start old)) in
    let next : i + 1 - start ≡ j + 1 = omega arith in
    ap (λ (xs : List Mapping). xs ++ with_fs fs row ∷ []) now_is
    ∙ append_assoc old more (with_fs fs row ∷ [])
    ∙ ap (λ (r : Mapping). old ++ (more ++ with_fs fs r ∷ [])) (own ∙ sym there)
    ∙ ap (λ (xs : List Mapping). old ++ xs) (sym step)
    ∙ ap (λ (n : ℕ). old ++ map (with_fs fs) (take n rest)) (sym next)

pub tied_more : (uses new : List Use) (rows now : List Mapping) (m : Mapping) → Tied uses rows → now ≡ rows ++ m ∷ [] → IsTable new → ((q : ℕ) → count_in new q ≡ count_in uses q + one_if m.place q) → Tied new now
tied_more uses new rows now m t now_is table more =
    subst (Tied new) (sym now_is) (
      table,
      λ q.
          (let both : count_by (lies_at q) (rows ++ m ∷ []) ≡ count_by (lies_at q) rows + count_by (lies_at q) (m ∷ []) = sum_by-append (λ (x : Mapping). cond (lies_at q x) 1 0) rows (m ∷ []) in
          let last : count_by (lies_at q) (m ∷ []) ≡ one (lies_at q m) + count_by (lies_at q) [] = sum_by-cons (λ (x : Mapping). cond (lies_at q x) 1 0) m [] in
          let none : count_by (lies_at q) [] ≡ 0 = refl in
          let same : one_if m.place q ≡ one (lies_at q m) = refl in
          omega (arith, more q, t.1 q)),
    )

-- a row has its place
pub row-lies : (rows : List Mapping) (i : ℕ) (d : Mapping) → i < length rows → 0 < count_by (lies_at (get_or rows i d).place) rows
row-lies [] i d h = absurd (omega arith)
row-lies (m ∷ rows) zero d h =
    let whole : count_by (lies_at m.place) (m ∷ rows) ≡ one (lies_at m.place m) + count_by (lies_at m.place) rows = sum_by-cons (λ (x : Mapping). cond (lies_at m.place x) 1 0) m rows in
    let yes : one (lies_at m.place m) ≡ 1 = ap one (eq-eqb m.place m.place refl) in
    omega arith
row-lies (m ∷ rows) (suc i) d h =
    let p : ℕ = (get_or rows i d).place in
    let whole : count_by (lies_at p) (m ∷ rows) ≡ one (lies_at p m) + count_by (lies_at p) rows = sum_by-cons (λ (x : Mapping). cond (lies_at p x) 1 0) m rows in
    omega (arith, row-lies rows i d (omega arith))

pub row_used : (uses : List Use) (rows : List Mapping) (i : ℕ) (row : Mapping) → Tied uses rows → i < length rows → row ≡ get_or rows i row → 0 < count_in uses row.place
row_used uses rows i row t h read = omega (arith, t.1 row.place, row-lies rows i row h, ap (λ (m : Mapping). count_by (lies_at m.place) rows) read)

-- the copies rise, behind all rows
rises-append : (low high : ℕ) (xs ys : List Mapping) → RisesFrom key low xs → All (λ (m : Mapping). key m < high) xs → low ≤ high → RisesFrom key high ys → RisesFrom key low (xs ++ ys)
rises-append low high [] ys r h le s = rises-lower key high low ys le s
rises-append low high (x ∷ xs) ys r h le s =
    (r.0, rises-append (key x + 1) high xs ys r.1 (All-tail (λ (m : Mapping). key m < high) x xs h) (omega (arith, All-head (λ (m : Mapping). key m < high) x xs h)) s)

copies-rise : (fs from low : ℕ) (rows : List Mapping) → RisesFrom key low rows → RisesFrom key (key_of fs (low - key_of from 0)) (map (with_fs fs) (of_fs from rows))
copies-rise fs from low [] r = tt
copies-rise fs from low (m ∷ rows) r = elim (cases_eq m.fs from) [
  | inl own ↦
      let is : of_fs from (m ∷ rows) ≡ m ∷ of_fs from rows = cond-true (eqb m.fs from) (m ∷ of_fs from rows) (of_fs from rows) (eq-eqb m.fs from own) in
      let rest = copies-rise fs from (key m + 1) rows r.1 in
      let lower : key (with_fs fs m) + 1 ≤ key_of fs ((key m + 1) - key_of from 0) = omega arith in
      subst (λ (xs : List Mapping). RisesFrom key (key_of fs (low - key_of from 0)) (map (with_fs fs) xs)) (sym is)
      (omega (arith, r.0), rises-lower key (key_of fs ((key m + 1) - key_of from 0)) (key (with_fs fs m) + 1) (map (with_fs fs) (of_fs from rows)) lower rest)
  | inr other ↦
      let is : of_fs from (m ∷ rows) ≡ of_fs from rows = cond-false (eqb m.fs from) (m ∷ of_fs from rows) (of_fs from rows) (ne_eqb m.fs from other) in
      subst (λ (xs : List Mapping). RisesFrom key (key_of fs (low - key_of from 0)) (map (with_fs fs) xs)) (sym is)
      (rises-lower key (key_of fs ((key m + 1) - key_of from 0)) (key_of fs (low - key_of from 0)) (map (with_fs fs) (of_fs from rows)) (omega (arith, r.0)) (copies-rise fs from (key m + 1) rows r.1))
]

pub IsThin-snapshot : (from fs next : ℕ) (rows : List Mapping) → IsThin rows next → All (λ (m : Mapping). m.fs < fs) rows → length rows + length (of_fs from rows) ≤ 32768 → IsThin (rows ++ map (with_fs fs) (of_fs from rows)) next
IsThin-snapshot from fs next rows thin above few =
    let own : List Mapping = of_fs from rows in
    let copies : List Mapping = map (with_fs fs) own in
    record {
      order = rises-append 0 (key_of fs 0) rows copies thin.order (λ k d w. omega (arith, above k d w, thin.blocks k d w)) (omega arith)
          (rises-lower key (key_of fs (0 - key_of from 0)) (key_of fs 0) copies (omega arith) (copies-rise fs from 0 rows thin.order));
      few = omega (arith, length-append rows copies, length-map own (with_fs fs));
      blocks = All-append (λ (m : Mapping). m.block < 2 ^ 32) rows copies thin.blocks
          (All-map (λ (m : Mapping). m.block < 2 ^ 32) (with_fs fs) own (All-filter (λ (m : Mapping). eqb m.fs from) (λ (m : Mapping). m.block < 2 ^ 32) rows thin.blocks));
      cells = All-append (λ (m : Mapping). m.cell < next) rows copies thin.cells
          (All-map (λ (m : Mapping). m.cell < next) (with_fs fs) own (All-filter (λ (m : Mapping). eqb m.fs from) (λ (m : Mapping). m.cell < next) rows thin.cells));
      paired = All-append (λ (a : Mapping). All (AgreesWith a) (rows ++ copies)) rows copies
          (λ k d w. all_agree (get_or rows k d) (thin.paired k d w))
          (All-map (λ (a : Mapping). All (AgreesWith a) (rows ++ copies)) (with_fs fs) own
          (All-filter (λ (m : Mapping). eqb m.fs from) (λ (a : Mapping). All (AgreesWith (with_fs fs a)) (rows ++ copies)) rows (λ k d w. all_agree (with_fs fs (get_or rows k d)) (thin.paired k d w))));
    }
  where
    all_agree : (a : Mapping) → All (AgreesWith a) rows → All (AgreesWith a) (rows ++ map (with_fs fs) (of_fs from rows))
    all_agree a h =
        All-append (AgreesWith a) rows (map (with_fs fs) (of_fs from rows)) h
        (All-map (AgreesWith a) (with_fs fs) (of_fs from rows) (All-filter (λ (m : Mapping). eqb m.fs from) (AgreesWith a) rows h))
