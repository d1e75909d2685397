-- what a write asks of a block, by the block's mapping and the count of its place
use Rattle.std.proofs.Common.{◌≡◌, ℕ, ◌+◌, ◌^◌, ◌<◌, true, List, [], ◌∷◌, map, cond, eqb, ltb, Option, Some, None, inl, inr, refl, sym, ◌∙◌, ap, subst, arith}
use Rattle.std.specs.List.{All, count_by}
use Rattle.std.specs.Map.{lookup}
use Rattle.std.specs.Option.{option_map, is_none}
use Rattle.std.proofs.lemmas.Bool.{cases_eq, eq-eqb, ne_eqb, cond-true, cond-false}
use Rattle.std.proofs.lemmas.List.Elements.{All-head, All-tail}
use Rattle.std.proofs.lemmas.List.Sums.{sum_by-cons}
use Rattle.st_limits.specs.Sums as sums
use Rattle.st_thinmap.specs.declared.mapping.Mapping.{Mapping}
use Rattle.st_thinmap.specs.Order.{item_at, key, key_of, mapping_at}
use Rattle.st_thinmap.specs.Thin.{IsThin, AgreesWith, cells_of, map_of, of_fs}
use Rattle.st_thinmap.specs.inner.Tied.{lies_at, one}

-- what a look-up found is one of the rows
pub found-all : (P : Mapping → Type 0) (k : ℕ) (rows : List Mapping) (o : Mapping) → All P rows → item_at key k rows ≡ Some o → P o
found-all P k [] o h e = absurd (let bad : None ≡ Some o = e in cc)
found-all P k (m ∷ rows) o h e = elim (cases_eq (key m) k) [
  | inl same ↦
      let is : m ≡ o = (let both : Some m ≡ Some o = sym (cond-true (eqb (key m) k) (Some m) (item_at key k rows) (eq-eqb (key m) k same)) ∙ e in cc) in
      subst P is (All-head P m rows h)
  | inr ne ↦ found-all P k rows o (All-tail P m rows h) (sym (cond-false (eqb (key m) k) (Some m) (item_at key k rows) (ne_eqb (key m) k ne)) ∙ e)
]

-- a filesystem's map finds just the cell of the block's mapping
pub lookup-is : (fs b : ℕ) (rows : List Mapping) → b < 2 ^ 32 → All (λ (m : Mapping). m.block < 2 ^ 32) rows → lookup (eqb b) (map_of fs rows) ≡ option_map (λ (m : Mapping). m.cell) (mapping_at fs b rows)
lookup-is fs b [] small h = refl
lookup-is fs b (m ∷ rows) small h =
    let block : m.block < 2 ^ 32 = All-head (λ (x : Mapping). x.block < 2 ^ 32) m rows h in
    let rest = lookup-is fs b rows small (All-tail (λ (x : Mapping). x.block < 2 ^ 32) m rows h) in
    elim (cases_eq m.fs fs) [
      | inl own ↦
          let map_is : map_of fs (m ∷ rows) ≡ (m.block, m.cell) ∷ map_of fs rows =
          ap (map (λ (x : Mapping). (x.block, x.cell))) (cond-true (eqb m.fs fs) (m ∷ of_fs fs rows) (of_fs fs rows) (eq-eqb m.fs fs own)) in
          elim (cases_eq b m.block) [
            | inl e ↦
                ap (lookup (eqb b)) map_is ∙ cond-true (eqb b m.block) (Some m.cell) (lookup (eqb b) (map_of fs rows)) (eq-eqb b m.block e)
                ∙ sym (ap (option_map (λ (x : Mapping). x.cell)) (cond-true (eqb (key m) (key_of fs b)) (Some m) (mapping_at fs b rows) (eq-eqb (key m) (key_of fs b) (omega arith))))
            | inr ne ↦
                ap (lookup (eqb b)) map_is ∙ cond-false (eqb b m.block) (Some m.cell) (lookup (eqb b) (map_of fs rows)) (ne_eqb b m.block ne) ∙ rest
                ∙ sym (ap (option_map (λ (x : Mapping). x.cell)) (cond-false (eqb (key m) (key_of fs b)) (Some m) (mapping_at fs b rows) (ne_eqb (key m) (key_of fs b) (λ e. ne (omega arith)))))
          ]
      | inr other ↦
          let map_is : map_of fs (m ∷ rows) ≡ map_of fs rows =
          ap (map (λ (x : Mapping). (x.block, x.cell))) (cond-false (eqb m.fs fs) (m ∷ of_fs fs rows) (of_fs fs rows) (ne_eqb m.fs fs other)) in
          ap (lookup (eqb b)) map_is ∙ rest
          ∙ sym (ap (option_map (λ (x : Mapping). x.cell)) (cond-false (eqb (key m) (key_of fs b)) (Some m) (mapping_at fs b rows) (ne_eqb (key m) (key_of fs b) (λ e. other (omega arith)))))
    ]

-- the count of a mapping's place is that of its cell
eqb-back : (x y : ℕ) → eqb x y ≡ eqb y x
eqb-back x y = elim (cases_eq x y) [
  | inl e ↦ eq-eqb x y e ∙ sym (eq-eqb y x (sym e))
  | inr ne ↦ ne_eqb x y ne ∙ sym (ne_eqb y x (λ e. ne (sym e)))
]

cell-count : (a : Mapping) (rows : List Mapping) → All (AgreesWith a) rows → count_by (eqb a.cell) (cells_of rows) ≡ count_by (lies_at a.place) rows
cell-count a [] h = refl
cell-count a (m ∷ rows) h =
    let left : count_by (eqb a.cell) (cells_of (m ∷ rows)) ≡ one (eqb a.cell m.cell) + count_by (eqb a.cell) (cells_of rows) = sum_by-cons (λ (c : ℕ). cond (eqb a.cell c) 1 0) m.cell (cells_of rows) in
    let right : count_by (lies_at a.place) (m ∷ rows) ≡ one (lies_at a.place m) + count_by (lies_at a.place) rows = sum_by-cons (λ (x : Mapping). cond (lies_at a.place x) 1 0) m rows in
    let same : one (eqb a.cell m.cell) ≡ one (lies_at a.place m) = ap one (All-head (AgreesWith a) m rows h ∙ eqb-back a.place m.place) in
    omega (arith, cell-count a rows (All-tail (AgreesWith a) m rows h))

pub shared-is : (rows : List Mapping) (next fs b : ℕ) (o : Mapping) → IsThin rows next → mapping_at fs b rows ≡ Some o → sums.is_shared (cells_of rows) o.cell ≡ ltb 1 (count_by (lies_at o.place) rows)
shared-is rows next fs b o thin e = ap (ltb 1) (cell-count o rows (found-all (λ (a : Mapping). All (AgreesWith a) rows) (key_of fs b) rows o thin.paired e))

-- what a write asks for, by what the look-up gave
pub asks-none : (rows : List Mapping) (next fs b : ℕ) → IsThin rows next → b < 2 ^ 32 → mapping_at fs b rows ≡ None → sums.takes_cell (map_of fs rows) (cells_of rows) b ≡ true
asks-none rows next fs b thin small e =
    let found : lookup (eqb b) (map_of fs rows) ≡ None = lookup-is fs b rows small thin.blocks ∙ ap (option_map (λ (m : Mapping). m.cell)) e in
    rw found

pub asks-some : (rows : List Mapping) (next fs b : ℕ) (o : Mapping) → IsThin rows next → b < 2 ^ 32 → mapping_at fs b rows ≡ Some o → sums.takes_cell (map_of fs rows) (cells_of rows) b ≡ ltb 1 (count_by (lies_at o.place) rows)
asks-some rows next fs b o thin small e =
    let found : lookup (eqb b) (map_of fs rows) ≡ Some o.cell = lookup-is fs b rows small thin.blocks ∙ ap (option_map (λ (m : Mapping). m.cell)) e in
    rw found (shared-is rows next fs b o thin e)

pub unmapped-is : (rows : List Mapping) (next fs b : ℕ) → IsThin rows next → b < 2 ^ 32 → is_none (lookup (eqb b) (map_of fs rows)) ≡ is_none (mapping_at fs b rows)
unmapped-is rows next fs b thin small = ap is_none (lookup-is fs b rows small thin.blocks) ∙ none-of (mapping_at fs b rows)
  where
    none-of : (o : Option Mapping) → is_none (option_map (λ (m : Mapping). m.cell) o) ≡ is_none o
    none-of None = refl
    none-of (Some m) = refl
