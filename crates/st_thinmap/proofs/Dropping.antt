-- what goes with a filesystem
use Rattle.std.proofs.Common.{◌≡◌, ℕ, ◌+◌, ◌^◌, ◌<◌, ◌≤◌, Bool, true, false, not, List, [], ◌∷◌, ◌||◌, get_or, map, cond, eqb, inl, inr, refl, sym, ◌∙◌, ap, arith}
use Rattle.std.specs.List.{All, count_by, filter}
use Rattle.std.proofs.lemmas.Bool.{true≢false, false≢true, cases_eq, eq-eqb, ne_eqb}
use Rattle.std.proofs.lemmas.List.Elements.{All-head, All-tail, All-filter}
use Rattle.std.proofs.lemmas.List.Sums.{sum_by-cons, length-filter, count_by-le-length}
use Rattle.std.proofs.lemmas.List.Filters.{sum_by-filter_both}
use Rattle.st_limits.specs.Cache.{has}
use Rattle.st_thinmap.specs.declared.mapping.Mapping.{Mapping}
use Rattle.st_thinmap.specs.declared.uses.Use.{Use}
use Rattle.st_thinmap.specs.Order.{key}
use Rattle.st_thinmap.specs.Thin.{AgreesWith, IsThin, cells_of, gone_with, of_fs, without_fs}
use Rattle.st_thinmap.specs.inner.Tied.{Tied, lies_at, one}
use Rattle.st_thinmap.specs.inner.Uses.{IsTable, count_in}
use Rattle.st_thinmap.proofs.Rising.{rises-filter}

-- each mapping is the filesystem's or another's
pub counts-split : (fs q : ℕ) (rows : List Mapping) → count_by (lies_at q) (of_fs fs rows) + count_by (lies_at q) (without_fs fs rows) ≡ count_by (lies_at q) rows
counts-split fs q rows = sum_by-filter_both (λ (m : Mapping). eqb m.fs fs) (λ (m : Mapping). not (eqb m.fs fs)) (λ m. refl) (λ (m : Mapping). cond (lies_at q m) 1 0) rows

pub own-present : (fs : ℕ) (uses : List Use) (rows : List Mapping) → Tied uses rows → (q : ℕ) → count_by (lies_at q) (of_fs fs rows) ≤ count_in uses q
own-present fs uses rows t q = omega (arith, counts-split fs q rows, t.1 q)

pub tied-without : (fs : ℕ) (uses new : List Use) (rows : List Mapping) → Tied uses rows → IsTable new → ((q : ℕ) → count_in new q + count_by (lies_at q) (of_fs fs rows) ≡ count_in uses q) → Tied new (without_fs fs rows)
tied-without fs uses new rows t table counts = (table, λ q. omega (arith, counts-split fs q rows, t.1 q, counts q))

pub IsThin-without : (fs next : ℕ) (rows : List Mapping) → IsThin rows next → IsThin (without_fs fs rows) next
IsThin-without fs next rows thin =
    let other : Mapping → Bool = λ m. not (eqb m.fs fs) in
    record {
      order = rises-filter key other 0 rows thin.order;
      few = omega (arith, length-filter other rows, count_by-le-length other rows, thin.few);
      blocks = All-filter other (λ (m : Mapping). m.block < 2 ^ 32) rows thin.blocks;
      cells = All-filter other (λ (m : Mapping). m.cell < next) rows thin.cells;
      paired = All-filter other (λ (a : Mapping). All (AgreesWith a) (without_fs fs rows)) rows (λ k d w. All-filter other (AgreesWith (get_or rows k d)) rows (thin.paired k d w));
    }

-- a place is in no use just where no mapping has its cell
unused : (a : Mapping) (rows : List Mapping) → All (AgreesWith a) rows → eqb (count_by (lies_at a.place) rows) 0 ≡ not (has a.cell (cells_of rows))
unused a [] h = refl
unused a (m ∷ rows) h =
    let agree : eqb a.cell m.cell ≡ eqb a.place m.place = All-head (AgreesWith a) m rows h in
    let count : count_by (lies_at a.place) (m ∷ rows) ≡ one (lies_at a.place m) + count_by (lies_at a.place) rows = sum_by-cons (λ (x : Mapping). cond (lies_at a.place x) 1 0) m rows in
    let rest = unused a rows (All-tail (AgreesWith a) m rows h) in
    elim (cases_eq m.place a.place) [
      | inl same ↦
          let here : one (lies_at a.place m) ≡ 1 = ap one (eq-eqb m.place a.place same) in
          let some : eqb (count_by (lies_at a.place) (m ∷ rows)) 0 ≡ false = ne_eqb (count_by (lies_at a.place) (m ∷ rows)) 0 (λ e. absurd (omega (arith, count, here, e))) in
          let cell : eqb a.cell m.cell ≡ true = agree ∙ eq-eqb a.place m.place (sym same) in
          some ∙ sym (ap (λ (b : Bool). not (b || has a.cell (cells_of rows))) cell)
      | inr other ↦
          let none : one (lies_at a.place m) ≡ 0 = ap one (ne_eqb m.place a.place other) in
          let cell : eqb a.cell m.cell ≡ false = agree ∙ ne_eqb a.place m.place (λ e. other (sym e)) in
          let less : count_by (lies_at a.place) (m ∷ rows) ≡ count_by (lies_at a.place) rows = omega (arith, count, none) in
          ap (λ (n : ℕ). eqb n 0) less ∙ rest ∙ sym (ap (λ (b : Bool). not (b || has a.cell (cells_of rows))) cell)
    ]

-- an item is kept in the one list just where it is in the other
kept : (b c : Bool) (x : Mapping) (xs : List Mapping) (ys : List ℕ) → b ≡ c → map (λ (m : Mapping). m.cell) xs ≡ ys → map (λ (m : Mapping). m.cell) (cond b (x ∷ xs) xs) ≡ cond c (x.cell ∷ ys) ys
kept true true x xs ys e rest = ap (λ (zs : List ℕ). x.cell ∷ zs) rest
kept false false x xs ys e rest = rest
kept true false x xs ys e rest = absurd (true≢false e)
kept false true x xs ys e rest = absurd (false≢true e)

unused_cells : (uses : List Use) (others rows : List Mapping) → All (λ (m : Mapping). eqb (count_in uses m.place) 0 ≡ not (has m.cell (cells_of others))) rows
    → map (λ (m : Mapping). m.cell) (filter (λ (m : Mapping). eqb (count_in uses m.place) 0) rows) ≡ filter (λ c. not (has c (cells_of others))) (cells_of rows)
unused_cells uses others [] h = refl
unused_cells uses others (m ∷ rows) h =
    let same : eqb (count_in uses m.place) 0 ≡ not (has m.cell (cells_of others)) = All-head (λ (x : Mapping). eqb (count_in uses x.place) 0 ≡ not (has x.cell (cells_of others))) m rows h in
    let rest = unused_cells uses others rows (All-tail (λ (x : Mapping). eqb (count_in uses x.place) 0 ≡ not (has x.cell (cells_of others))) m rows h) in
    kept (eqb (count_in uses m.place) 0) (not (has m.cell (cells_of others))) m (filter (λ (x : Mapping). eqb (count_in uses x.place) 0) rows) (filter (λ c. not (has c (cells_of others))) (cells_of rows)) same rest

pub gone-is : (fs next : ℕ) (uses : List Use) (rows : List Mapping) → IsThin rows next → Tied uses (without_fs fs rows)
    → map (λ (m : Mapping). m.cell) (filter (λ (m : Mapping). eqb (count_in uses m.place) 0) (of_fs fs rows)) ≡ gone_with fs rows
gone-is fs next uses rows thin t =
    unused_cells uses (without_fs fs rows) (of_fs fs rows)
    (All-filter (λ (m : Mapping). eqb m.fs fs) (λ (m : Mapping). eqb (count_in uses m.place) 0 ≡ not (has m.cell (cells_of (without_fs fs rows)))) rows
    (λ k d w. ap (λ (n : ℕ). eqb n 0) (t.1 (get_or rows k d).place) ∙ unused (get_or rows k d) (without_fs fs rows) (All-filter (λ (m : Mapping). not (eqb m.fs fs)) (AgreesWith (get_or rows k d)) rows (thin.paired k d w))))
