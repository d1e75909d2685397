-- the cells that mappings name: sorted, each mapped, and each mapping's cell is among them
use Rattle.std.proofs.Common.{◌≡◌, ◌≢◌, ℕ, suc, ◌<◌, ◌≤◌, List, [], ◌∷◌, Bool, true, false, cond, ◌||◌, length, map, refl, ap, sym, arith}
use Rattle.std.specs.Prelude.{nat_eq, nat_lt, ◌==◌}
use Rattle.std.specs.List.{AllByRecursion, list_any}
use Rattle.st_flexrec.specs.declared.rows.CellRow.{CellRow}
use Rattle.st_flexlog.specs.declared.state.Mapping.{Mapping}
use Rattle.st_model.specs.ValidPool.{EachPair}
use Rattle.st_image.specs.Stands.{cell_rows, put_cell_of}
use Rattle.st_flexsound.specs.Sound.{HaveOwnPlace}
use Rattle.st_flexsound.proofs.Lists.{All-at, All-both, All-from, All-weaker, pairs-map}
use Rattle.st_sound.proofs.Lists.{eq_of, eq_true, lt_of, not_lt, not_eq, or_second, few_below}

abbrev row_by : Mapping → CellRow
row_by m = record { cell = m.cell; place = m.place }

put_all : (P : CellRow → Type 0) (m : Mapping) (rows : List CellRow) → P (row_by m) → AllByRecursion P rows → AllByRecursion P (put_cell_of m rows)
put_all P m [] new all = (new, tt)
put_all P m (row ∷ rows) new all = by (nat_lt m.cell row.cell) (nat_eq m.cell row.cell) (put_all P m rows new all.1)
  where
    by : (lower same : Bool) → AllByRecursion P (put_cell_of m rows) → AllByRecursion P (cond lower (row_by m ∷ row ∷ rows) (cond same (row ∷ rows) (row ∷ put_cell_of m rows)))
    by true same rest = (new, all)
    by false true rest = all
    by false false rest = (all.0, rest)

-- what holds of each mapping's row holds of each
pub rows_all : (P : CellRow → Type 0) (ms : List Mapping) → AllByRecursion (λ (m : Mapping). P (row_by m)) ms → AllByRecursion P (cell_rows ms)
rows_all P [] h = tt
rows_all P (m ∷ ms) h = put_all P m (cell_rows ms) h.0 (rows_all P ms h.1)

abbrev below : CellRow → CellRow → Type 0
below a b = a.cell < b.cell

put_sorted : (m : Mapping) (rows : List CellRow) → EachPair below rows → EachPair below (put_cell_of m rows)
put_sorted m [] h = (tt, tt)
put_sorted m (row ∷ rows) h = by (nat_lt m.cell row.cell) (nat_eq m.cell row.cell) refl refl (put_sorted m rows h.1)
  where
    by : (lower same : Bool) → nat_lt m.cell row.cell ≡ lower → nat_eq m.cell row.cell ≡ same → EachPair below (put_cell_of m rows) → EachPair below (cond lower (row_by m ∷ row ∷ rows) (cond same (row ∷ rows) (row ∷ put_cell_of m rows)))
    by true same e f rest =
        let less = lt_of m.cell row.cell e in
        ((less, All-weaker (below row) (below (row_by m)) rows (λ b (g : row.cell < b.cell). omega (arith, less, g)) h.0), h)
    by false true e f rest = h
    by false false e f rest =
        let most = not_lt m.cell row.cell e in
        let differ = not_eq m.cell row.cell f in
        let more : row.cell < m.cell = omega (arith, most, differ) in
        (put_all (below row) m rows more h.0, rest)

pub rows_sorted : (ms : List Mapping) → EachPair below (cell_rows ms)
rows_sorted [] = tt
rows_sorted (m ∷ ms) = put_sorted m (cell_rows ms) (rows_sorted ms)

abbrev pub has_cell : ℕ → List CellRow → Bool
has_cell n = list_any (λ (row : CellRow). row.cell == n)

put_keeps : (n : ℕ) (m : Mapping) (rows : List CellRow) → has_cell n rows ≡ true → has_cell n (put_cell_of m rows) ≡ true
put_keeps n m [] e = absurd cc
put_keeps n m (row ∷ rows) e = by (nat_lt m.cell row.cell) (nat_eq m.cell row.cell) (λ rest. put_keeps n m rows rest)
  where
    first : (a b c : Bool) → (a || b) ≡ true → (b ≡ true → c ≡ true) → (a || c) ≡ true
    first true b c f g = refl
    first false b c f g = g f

    by : (lower same : Bool) → (has_cell n rows ≡ true → has_cell n (put_cell_of m rows) ≡ true) → has_cell n (cond lower (row_by m ∷ row ∷ rows) (cond same (row ∷ rows) (row ∷ put_cell_of m rows))) ≡ true
    by true same rest = or_second (m.cell == n) (has_cell n (row ∷ rows)) e
    by false true rest = e
    by false false rest = first (row.cell == n) (has_cell n rows) (has_cell n (put_cell_of m rows)) e rest

put_has : (m : Mapping) (rows : List CellRow) → has_cell m.cell (put_cell_of m rows) ≡ true
put_has m [] = ap (λ (b : Bool). b || false) (eq_true m.cell m.cell refl)
put_has m (row ∷ rows) = by (nat_lt m.cell row.cell) (nat_eq m.cell row.cell) refl (put_has m rows)
  where
    by : (lower same : Bool) → nat_eq m.cell row.cell ≡ same → has_cell m.cell (put_cell_of m rows) ≡ true → has_cell m.cell (cond lower (row_by m ∷ row ∷ rows) (cond same (row ∷ rows) (row ∷ put_cell_of m rows))) ≡ true
    by true same f rest = ap (λ (b : Bool). b || has_cell m.cell (row ∷ rows)) (eq_true m.cell m.cell refl)
    by false true f rest = ap (λ (b : Bool). b || has_cell m.cell rows) (eq_true row.cell m.cell (sym (eq_of m.cell row.cell f)))
    by false false f rest = or_second (row.cell == m.cell) (has_cell m.cell (put_cell_of m rows)) rest

pub rows_have : (ms : List Mapping) → AllByRecursion (λ (m : Mapping). has_cell m.cell (cell_rows ms) ≡ true) ms
rows_have [] = tt
rows_have (m ∷ ms) = (put_has m (cell_rows ms), All-weaker (λ (n : Mapping). has_cell n.cell (cell_rows ms) ≡ true) (λ (n : Mapping). has_cell n.cell (cell_rows (m ∷ ms)) ≡ true) ms (λ n h. put_keeps n.cell m (cell_rows ms) h) (rows_have ms))

abbrev place_in : CellRow → ℕ
place_in row = row.place

module _ (ms : List Mapping) (own : AllByRecursion (λ (m : Mapping). AllByRecursion (HaveOwnPlace m) ms) ms) where
  -- the cell of each mapping with the place of this row is the row's
  abbrev Owns : CellRow → Type 0
  Owns a = AllByRecursion (λ (n : Mapping). a.place ≡ n.place → a.cell ≡ n.cell) ms

  abbrev IsNamed : CellRow → Type 0
  IsNamed b = (a : CellRow) → Owns a → a.place ≡ b.place → a.cell ≡ b.cell

  all_named : AllByRecursion IsNamed (cell_rows ms)
  all_named = rows_all IsNamed ms (All-from (λ (m : Mapping). IsNamed (row_by m)) ms (λ k m at a owns. All-at (λ (n : Mapping). a.place ≡ n.place → a.cell ≡ n.cell) ms k m owns at))

  places_differ : EachPair (λ (a b : ℕ). a ≢ b) (map place_in (cell_rows ms))
  places_differ = pairs-map (λ (r : CellRow). Owns r × IsNamed r) below (λ (a b : ℕ). a ≢ b) place_in (cell_rows ms)
      (λ a b p q (less : a.cell < b.cell) same. (let one = q.1 a p.0 same in omega (arith, one, less)))
      (All-both Owns IsNamed (cell_rows ms) (rows_all Owns ms own) all_named) (rows_sorted ms)

  length-map : (rows : List CellRow) → length (map place_in rows) ≡ length rows
  length-map [] = refl
  length-map (r ∷ rs) = ap suc (length-map rs)

  mapped_below : (n : ℕ) (rows : List CellRow) → AllByRecursion (λ (row : CellRow). row.place < n) rows → AllByRecursion (λ (x : ℕ). x < n) (map place_in rows)
  mapped_below n [] h = tt
  mapped_below n (r ∷ rs) h = (h.0, mapped_below n rs h.1)

  -- no more cells than places
  pub rows_few : (n : ℕ) → AllByRecursion (λ (row : CellRow). row.place < n) (cell_rows ms) → length (cell_rows ms) ≤ n
  rows_few n places = let few = few_below (map place_in (cell_rows ms)) n places_differ (mapped_below n (cell_rows ms) places) in let size = length-map (cell_rows ms) in omega (arith, few, size)
