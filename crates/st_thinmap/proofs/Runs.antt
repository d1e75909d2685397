-- the rows of a filesystem are a run of all rows
use Rattle.std.proofs.Common.{◌≡◌, ℕ, suc, ◌+◌, ◌-◌, ◌^◌, ◌<◌, ◌≤◌, true, false, not, List, [], ◌∷◌, ◌++◌, length, take, drop, eqb, ltb, inl, inr, refl, sym, ◌∙◌, ap, ap₂, arith}
use Rattle.std.specs.List.{All}
use Rattle.std.proofs.lemmas.Bool.{cases_lt, eq-eqb, ne_eqb, cond-true, cond-false, lt-ltb, le-ltb}
use Rattle.std.proofs.lemmas.List.{length-take, length-drop}
use Rattle.std.proofs.lemmas.List.Elements.{All-head, All-tail}
use Rattle.st_thinmap.specs.declared.mapping.Mapping.{Mapping}
use Rattle.st_thinmap.specs.Order.{RisesFrom, key, key_of}
use Rattle.st_thinmap.specs.Thin.{of_fs, without_fs}
use Rattle.st_thinmap.specs.inner.Rank.{rank}
use Rattle.st_thinmap.proofs.Rising.{rank-within}

-- the run of a filesystem, and all before it and behind it
pub record Run (fs : ℕ) (rows : List Mapping) : Type 0 where
  pub order : rank key (key_of fs 0) rows ≤ rank key (key_of (fs + 1) 0) rows
  pub own : of_fs fs rows ≡ take (rank key (key_of (fs + 1) 0) rows - rank key (key_of fs 0) rows) (drop (rank key (key_of fs 0) rows) rows)
  pub rest : without_fs fs rows ≡ take (rank key (key_of fs 0) rows) rows ++ drop (rank key (key_of (fs + 1) 0) rows) rows

-- behind a filesystem it has no rows
past : (fs low : ℕ) (rows : List Mapping) → RisesFrom key low rows → All (λ (m : Mapping). m.block < 2 ^ 32) rows → key_of (fs + 1) 0 ≤ low → (of_fs fs rows ≡ []) × (without_fs fs rows ≡ rows)
past fs low [] r h le = (refl, refl)
past fs low (m ∷ rows) r h le =
    let block : m.block < 2 ^ 32 = All-head (λ (x : Mapping). x.block < 2 ^ 32) m rows h in
    let rest = past fs (key m + 1) rows r.1 (All-tail (λ (x : Mapping). x.block < 2 ^ 32) m rows h) (omega (arith, r.0)) in
    let other : eqb m.fs fs ≡ false = ne_eqb m.fs fs (λ e. absurd (omega (arith, r.0))) in (
      cond-false (eqb m.fs fs) (m ∷ of_fs fs rows) (of_fs fs rows) other ∙ rest.0,
      cond-true (not (eqb m.fs fs)) (m ∷ without_fs fs rows) (without_fs fs rows) (ap not other) ∙ ap (λ (xs : List Mapping). m ∷ xs) rest.1,
    )

-- from a filesystem's first row on
pub from_first : (fs low : ℕ) (rows : List Mapping) → RisesFrom key low rows → All (λ (m : Mapping). m.block < 2 ^ 32) rows → key_of fs 0 ≤ low
    → (of_fs fs rows ≡ take (rank key (key_of (fs + 1) 0) rows) rows) × (without_fs fs rows ≡ drop (rank key (key_of (fs + 1) 0) rows) rows)
from_first fs low [] r h le = (refl, refl)
from_first fs low (m ∷ rows) r h le =
    let block : m.block < 2 ^ 32 = All-head (λ (x : Mapping). x.block < 2 ^ 32) m rows h in
    let blocks = All-tail (λ (x : Mapping). x.block < 2 ^ 32) m rows h in
    let k : ℕ = key_of (fs + 1) 0 in
    elim (cases_lt (key m) k) [
      | inl less ↦
          let at : rank key k (m ∷ rows) ≡ suc (rank key k rows) = cond-true (ltb (key m) k) (suc (rank key k rows)) 0 (lt-ltb (key m) k less) in
          let same : eqb m.fs fs ≡ true = eq-eqb m.fs fs (omega (arith, r.0)) in
          let rest = from_first fs (key m + 1) rows r.1 blocks (omega (arith, r.0)) in (
            cond-true (eqb m.fs fs) (m ∷ of_fs fs rows) (of_fs fs rows) same ∙ ap (λ (xs : List Mapping). m ∷ xs) rest.0 ∙ sym (ap (λ (i : ℕ). take i (m ∷ rows)) at),
            cond-false (not (eqb m.fs fs)) (m ∷ without_fs fs rows) (without_fs fs rows) (ap not same) ∙ rest.1 ∙ sym (ap (λ (i : ℕ). drop i (m ∷ rows)) at),
          )
      | inr behind ↦
          let at : rank key k (m ∷ rows) ≡ 0 = cond-false (ltb (key m) k) (suc (rank key k rows)) 0 (le-ltb (key m) k behind) in
          let all = past fs (key m) (m ∷ rows) (omega arith, r.1) h behind in
          (all.0 ∙ sym (ap (λ (i : ℕ). take i (m ∷ rows)) at), all.1 ∙ sym (ap (λ (i : ℕ). drop i (m ∷ rows)) at))
    ]

pub run_is : (fs low : ℕ) (rows : List Mapping) → RisesFrom key low rows → All (λ (m : Mapping). m.block < 2 ^ 32) rows → Run fs rows
run_is fs low [] r h = record { order = omega arith; own = refl; rest = refl }
run_is fs low (m ∷ rows) r h =
    let block : m.block < 2 ^ 32 = All-head (λ (x : Mapping). x.block < 2 ^ 32) m rows h in
    let blocks = All-tail (λ (x : Mapping). x.block < 2 ^ 32) m rows h in
    let j : ℕ = key_of fs 0 in
    let k : ℕ = key_of (fs + 1) 0 in
    elim (cases_lt (key m) j) [
      | inl before ↦
          let start : rank key j (m ∷ rows) ≡ suc (rank key j rows) = cond-true (ltb (key m) j) (suc (rank key j rows)) 0 (lt-ltb (key m) j before) in
          let end : rank key k (m ∷ rows) ≡ suc (rank key k rows) = cond-true (ltb (key m) k) (suc (rank key k rows)) 0 (lt-ltb (key m) k (omega arith)) in
          let other : eqb m.fs fs ≡ false = ne_eqb m.fs fs (λ e. absurd (omega arith)) in
          let rest = run_is fs (key m + 1) rows r.1 blocks in
          let width : rank key k (m ∷ rows) - rank key j (m ∷ rows) ≡ rank key k rows - rank key j rows = omega arith in
          record {
            order = omega (arith, rest.order);
            own = cond-false (eqb m.fs fs) (m ∷ of_fs fs rows) (of_fs fs rows) other ∙ rest.own ∙ sym (ap₂ (λ (n i : ℕ). take n (drop i (m ∷ rows))) width start);
            rest = cond-true (not (eqb m.fs fs)) (m ∷ without_fs fs rows) (without_fs fs rows) (ap not other) ∙ ap (λ (xs : List Mapping). m ∷ xs) rest.rest
                ∙ sym (ap₂ (λ (i n : ℕ). take i (m ∷ rows) ++ drop n (m ∷ rows)) start end);
          }
      | inr from ↦
          let start : rank key j (m ∷ rows) ≡ 0 = cond-false (ltb (key m) j) (suc (rank key j rows)) 0 (le-ltb (key m) j from) in
          let all = from_first fs (key m) (m ∷ rows) (omega arith, r.1) h from in
          let width : rank key k (m ∷ rows) - rank key j (m ∷ rows) ≡ rank key k (m ∷ rows) = omega arith in
          record {
            order = omega arith;
            own = all.0 ∙ sym (ap₂ (λ (n i : ℕ). take n (drop i (m ∷ rows))) width start);
            rest = all.1 ∙ sym (ap (λ (i : ℕ). take i (m ∷ rows) ++ drop (rank key k (m ∷ rows)) (m ∷ rows)) start);
          }
    ]

pub run_length : (fs : ℕ) (rows : List Mapping) → RisesFrom key 0 rows → All (λ (m : Mapping). m.block < 2 ^ 32) rows
    → (rank key (key_of fs 0) rows ≤ rank key (key_of (fs + 1) 0) rows) × (length (of_fs fs rows) ≡ rank key (key_of (fs + 1) 0) rows - rank key (key_of fs 0) rows)
run_length fs rows r h =
    let run = run_is fs 0 rows r h in
    let start : ℕ = rank key (key_of fs 0) rows in
    let end : ℕ = rank key (key_of (fs + 1) 0) rows in
    (run.order, ap length run.own ∙ omega (arith, length-take (end - start) (drop start rows), length-drop start rows, rank-within key (key_of (fs + 1) 0) rows, run.order))
