-- what holds of every map, after a mapping is put in
use Rattle.std.proofs.Common.{◌≡◌, ◌≢◌, ℕ, ◌+◌, ◌-◌, ◌^◌, ◌<◌, ◌≤◌, List, [], ◌∷◌, length, get_or, cond, eqb, Option, Some, None, inl, inr, refl, sym, ◌∙◌, ap, subst, arith}
use Rattle.std.specs.List.{All, count_by}
use Rattle.std.specs.Option.{MatchOption}
use Rattle.std.proofs.lemmas.Bool.{cases_eq, eq-eqb, ne_eqb, cond-true, cond-false}
use Rattle.std.proofs.lemmas.List.Elements.{All-head, All-tail}
use Rattle.std.proofs.lemmas.List.Sums.{sum_by-cons, count_by-le-length}
use Rattle.st_thinmap.specs.declared.mapping.Mapping.{Mapping}
use Rattle.st_thinmap.specs.declared.uses.Use.{Use}
use Rattle.st_thinmap.specs.Order.{RisesFrom, item_at, key, put}
use Rattle.st_thinmap.specs.Thin.{IsThin, AgreesWith}
use Rattle.st_thinmap.specs.inner.Uses.{count_in, one_if, IsTable}
use Rattle.st_thinmap.specs.inner.Tied.{Tied, lies_at, one, one_of}
use Rattle.st_thinmap.proofs.Used.{eqb-symm}
use Rattle.st_thinmap.proofs.Puts.{length-put, rises-put, All-put, count-put}

-- a place that no mapping has
abbrev pub Free : List Mapping → ℕ → Type 0
Free rows p = All (λ (m : Mapping). m.place ≢ p) rows

abbrev pub IsFew : Mapping → List Mapping → Type 0
IsFew m rows = length (put m rows) ≤ 32768

pub none-lies : (p : ℕ) (rows : List Mapping) → All (λ (m : Mapping). m.place ≢ p) rows → count_by (lies_at p) rows ≡ 0
none-lies p [] h = refl
none-lies p (m ∷ rows) h =
    let whole : count_by (lies_at p) (m ∷ rows) ≡ one (lies_at p m) + count_by (lies_at p) rows = sum_by-cons (λ (x : Mapping). cond (lies_at p x) 1 0) m rows in
    let no : one (lies_at p m) ≡ 0 = ap one (ne_eqb m.place p (All-head (λ (m : Mapping). m.place ≢ p) m rows h)) in
    omega (arith, none-lies p rows (All-tail (λ (m : Mapping). m.place ≢ p) m rows h))

-- a mapping that was found has its place
pub found-lies : (k : ℕ) (rows : List Mapping) (o : Mapping) → item_at key k rows ≡ Some o → 0 < count_by (lies_at o.place) rows
found-lies k [] o e = absurd (let bad : None ≡ Some o = e in cc)
found-lies k (m ∷ rows) o e =
    let whole : count_by (lies_at o.place) (m ∷ rows) ≡ one (lies_at o.place m) + count_by (lies_at o.place) rows = sum_by-cons (λ (x : Mapping). cond (lies_at o.place x) 1 0) m rows in
    elim (cases_eq (key m) k) [
      | inl same ↦
          let is : m ≡ o = (let both : Some m ≡ Some o = sym (cond-true (eqb (key m) k) (Some m) (item_at key k rows) (eq-eqb (key m) k same)) ∙ e in cc) in
          let yes : one (lies_at o.place m) ≡ 1 = ap one (eq-eqb m.place o.place (ap (λ (x : Mapping). x.place) is)) in
          omega arith
      | inr ne ↦
          let rest : item_at key k rows ≡ Some o = sym (cond-false (eqb (key m) k) (Some m) (item_at key k rows) (ne_eqb (key m) k ne)) ∙ e in
          omega (arith, found-lies k rows o rest)
    ]

pub old_present : (uses : List Use) (rows : List Mapping) (k : ℕ) (old : Option Mapping) → Tied uses rows → old ≡ item_at key k rows → MatchOption old (Unit {0}) (λ (m : Mapping). 0 < count_in uses m.place)
old_present uses rows k None t e = tt
old_present uses rows k (Some o) t e = omega (arith, found-lies k rows o (sym e), t.1 o.place)

-- the counts after a fresh mapping replaced an old one
pub absent-then : (uses lowered : List Use) (rows : List Mapping) (p : ℕ) (old : Option Mapping) → Tied uses rows → All (λ (m : Mapping). m.place ≢ p) rows → ((q : ℕ) → count_in lowered q + one_of (lies_at q) old ≡ count_in uses q) → count_in lowered p ≡ 0
absent-then uses lowered rows p old t free counts = omega (arith, counts p, t.1 p, none-lies p rows free)

one-is : (m : Mapping) (q : ℕ) → one_if m.place q ≡ one (lies_at q m)
one-is m q = refl

pub Tied-put : (uses lowered new : List Use) (rows now : List Mapping) (m : Mapping) (old : Option Mapping) → Tied uses rows → RisesFrom key 0 rows → old ≡ item_at key (key m) rows → now ≡ put m rows
    → ((q : ℕ) → count_in lowered q + one_of (lies_at q) old ≡ count_in uses q) → IsTable new → ((q : ℕ) → count_in new q ≡ count_in lowered q + one_if m.place q) → Tied new now
Tied-put uses lowered new rows now m old t order old_is now_is less table more =
    subst (Tied new) (sym now_is)
    (table, λ q. omega (arith, more q, less q, t.1 q, count-put (lies_at q) m 0 rows order, ap (one_of (lies_at q)) old_is, one-is m q))

agrees-fresh : (m : Mapping) (x : Mapping) → x.cell < m.cell → m.place ≢ x.place → AgreesWith m x
agrees-fresh m x less ne = ne_eqb m.cell x.cell (λ e. absurd (omega arith)) ∙ sym (ne_eqb m.place x.place ne)

agrees-back : (m : Mapping) (x : Mapping) → x.cell < m.cell → x.place ≢ m.place → AgreesWith x m
agrees-back m x less ne = ne_eqb x.cell m.cell (λ e. absurd (omega arith)) ∙ sym (ne_eqb x.place m.place ne)

agrees-self : (m : Mapping) → AgreesWith m m
agrees-self m = eq-eqb m.cell m.cell refl ∙ sym (eq-eqb m.place m.place refl)

pub IsThin-put : (m : Mapping) (rows : List Mapping) (next : ℕ) → IsThin rows next → m.cell ≡ next → m.block < 2 ^ 32 → All (λ (x : Mapping). x.place ≢ m.place) rows → length (put m rows) ≤ 32768 → IsThin (put m rows) (next + 1)
IsThin-put m rows next thin cell block free few =
    let both : All (λ (x : Mapping). AgreesWith m x × AgreesWith x m) rows =
    λ k d w. (agrees-fresh m (get_or rows k d) (omega (arith, thin.cells k d w)) (λ e. free k d w (sym e)), agrees-back m (get_or rows k d) (omega (arith, thin.cells k d w)) (free k d w)) in
    record {
      order = rises-put m 0 rows (omega arith) thin.order;
      few = few;
      blocks = All-put (λ (x : Mapping). x.block < 2 ^ 32) m rows block thin.blocks;
      cells = All-put (λ (x : Mapping). x.cell < next + 1) m rows (omega arith) (λ k d w. omega (arith, thin.cells k d w));
      paired = All-put (λ (a : Mapping). All (AgreesWith a) (put m rows)) m rows
          (All-put (AgreesWith m) m rows (agrees-self m) (λ k d w. (both k d w).0))
          (λ k d w. All-put (AgreesWith (get_or rows k d)) m rows ((both k d w).1) (thin.paired k d w));
    }

agrees-symm : (a b : Mapping) → AgreesWith a b → AgreesWith b a
agrees-symm a b h = eqb-symm b.cell a.cell ∙ h ∙ eqb-symm a.place b.place

pub IsThin-load : (m : Mapping) (rows : List Mapping) (next : ℕ) → IsThin rows next → m.cell < next → m.block < 2 ^ 32 → All (AgreesWith m) rows → length rows < 32768 → IsThin (put m rows) next
IsThin-load m rows next thin cell block paired few =
    record {
      order = rises-put m 0 rows (omega arith) thin.order;
      few = omega (arith, length-put m rows);
      blocks = All-put (λ (x : Mapping). x.block < 2 ^ 32) m rows block thin.blocks;
      cells = All-put (λ (x : Mapping). x.cell < next) m rows cell thin.cells;
      paired = All-put (λ (a : Mapping). All (AgreesWith a) (put m rows)) m rows
          (All-put (AgreesWith m) m rows (agrees-self m) paired)
          (λ k d w. All-put (AgreesWith (get_or rows k d)) m rows (agrees-symm m (get_or rows k d) (paired k d w)) (thin.paired k d w));
    }

-- a count of places is below the numbers of its type
pub count_small : (uses : List Use) (rows : List Mapping) (p : ℕ) → Tied uses rows → length rows ≤ 65536 → count_in uses p < 2 ^ 32 - 1
count_small uses rows p t few = omega (arith, t.1 p, count_by-le-length (lies_at p) rows)

pub Tied-load : (uses new : List Use) (rows now : List Mapping) (m : Mapping) → Tied uses rows → RisesFrom key 0 rows → item_at key (key m) rows ≡ None → now ≡ put m rows
    → IsTable new → ((q : ℕ) → count_in new q ≡ count_in uses q + one_if m.place q) → Tied new now
Tied-load uses new rows now m t order none now_is table more =
    Tied-put uses uses new rows now m None t order (sym none) now_is (λ q. omega arith) table more
