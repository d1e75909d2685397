-- fresh cells fit the map
use Rattle.std.proofs.Common.{◌≡◌, ◌≢◌, ℕ, ◌+◌, ◌^◌, ◌<◌, ◌≤◌, Bool, true, false, ◌&&◌, List, [], ◌∷◌, length, cond, eqb, ltb, Option, inl, inr, refl, ◌∙◌, ap, arith}
use Rattle.std.specs.List.{All, count_by}
use Rattle.std.specs.Map.{lookup}
use Rattle.std.specs.Option.{is_none}
use Rattle.std.proofs.lemmas.Bool.{cases_lt, cond-true, cond-false, lt-ltb, le-ltb}
use Rattle.std.proofs.lemmas.List.Sums.{sum_by-cons}
use Rattle.st_thinmap.specs.declared.mapping.Mapping.{Mapping}
use Rattle.st_thinmap.specs.declared.plan.Fresh.{Fresh}
use Rattle.st_thinmap.specs.Order.{item_at, key, mapping_at, put}
use Rattle.st_thinmap.specs.Thin.{Fits, IsThin, fresh_mapping, map_of, more, touched}
use Rattle.st_thinmap.specs.inner.Tied.{one}
use Rattle.st_thinmap.proofs.Puts.{rises-put, All-put, length-put-is, look-put}
use Rattle.st_thinmap.proofs.Demands.{unmapped-is}

pub one_fits : (fs next : ℕ) (x : Fresh) (rows : List Mapping) → IsThin rows next → x.cell ≡ next → x.block < 2 ^ 32 → All (λ (m : Mapping). m.place ≢ x.place) rows
    → length rows + one (is_none (mapping_at fs x.block rows)) ≤ 32768 → Fits fs (x ∷ []) rows next
one_fits fs next x rows thin cell block free few = (cell, block, free, omega (arith, length-put-is (fresh_mapping fs x) 0 rows thin.order), tt)

pub two_fits : (fs next : ℕ) (x y : Fresh) (rows : List Mapping) → IsThin rows next → x.cell ≡ next → y.cell ≡ next + 1 → x.block < y.block → y.block < 2 ^ 32 → x.place < y.place
    → All (λ (m : Mapping). m.place ≢ x.place) rows → All (λ (m : Mapping). m.place ≢ y.place) rows
    → length rows + (one (is_none (mapping_at fs x.block rows)) + one (is_none (mapping_at fs y.block rows))) ≤ 32768 → Fits fs (x ∷ y ∷ []) rows next
two_fits fs next x y rows thin cell next_cell order block apart free next_free few =
    let m : Mapping = fresh_mapping fs x in
    let n : Mapping = fresh_mapping fs y in
    let rows2 : List Mapping = put m rows in
    let long : length rows2 ≡ length rows + one (is_none (mapping_at fs x.block rows)) = length-put-is m 0 rows thin.order in
    let look : item_at key (key n) rows2 ≡ mapping_at fs y.block rows = look-put m (key n) rows (λ e. absurd (omega arith)) in
    let longer : length (put n rows2) ≡ length rows2 + one (is_none (item_at key (key n) rows2)) = length-put-is n 0 rows2 (rises-put m 0 rows (omega arith) thin.order) in
    let same : one (is_none (item_at key (key n) rows2)) ≡ one (is_none (mapping_at fs y.block rows)) = ap (λ (o : Option Mapping). one (is_none o)) look in (
      cell,
      omega arith,
      free,
      omega arith,
      (next_cell, block, All-put (λ (a : Mapping). a.place ≢ y.place) m rows (λ e. absurd (omega arith)) next_free, omega arith, tt),
    )

-- what a write adds, block by block
pub more_two : (fs first last next : ℕ) (rows : List Mapping) → IsThin rows next → first < last → last < 2 ^ 32 → more fs first last rows ≡ one (is_none (mapping_at fs first rows)) + one (is_none (mapping_at fs last rows))
more_two fs first last next rows thin order small =
    let p : ℕ → Bool = λ b. is_none (lookup (eqb b) (map_of fs rows)) in
    let blocks : touched first last ≡ first ∷ last ∷ [] = cond-true (ltb first last) (first ∷ last ∷ []) (first ∷ []) (lt-ltb first last order) in
    let a : count_by p (first ∷ last ∷ []) ≡ one (p first) + count_by p (last ∷ []) = sum_by-cons (λ (b : ℕ). cond (p b) 1 0) first (last ∷ []) in
    let b : count_by p (last ∷ []) ≡ one (p last) + count_by p [] = sum_by-cons (λ (b : ℕ). cond (p b) 1 0) last [] in
    let none : count_by p [] ≡ 0 = refl in
    let x : one (p first) ≡ one (is_none (mapping_at fs first rows)) = ap one (unmapped-is rows next fs first thin (omega arith)) in
    let y : one (p last) ≡ one (is_none (mapping_at fs last rows)) = ap one (unmapped-is rows next fs last thin small) in
    ap (count_by p) blocks ∙ omega arith

pub more_first : (fs first last next : ℕ) (rows : List Mapping) → IsThin rows next → first < 2 ^ 32 → one (is_none (mapping_at fs first rows)) ≤ more fs first last rows
more_first fs first last next rows thin small =
    let p : ℕ → Bool = λ b. is_none (lookup (eqb b) (map_of fs rows)) in
    let x : one (p first) ≡ one (is_none (mapping_at fs first rows)) = ap one (unmapped-is rows next fs first thin small) in
    elim (cases_lt first last) [
      | inl order ↦
          let blocks : touched first last ≡ first ∷ last ∷ [] = cond-true (ltb first last) (first ∷ last ∷ []) (first ∷ []) (lt-ltb first last order) in
          let a : count_by p (first ∷ last ∷ []) ≡ one (p first) + count_by p (last ∷ []) = sum_by-cons (λ (b : ℕ). cond (p b) 1 0) first (last ∷ []) in
          let all : more fs first last rows ≡ count_by p (first ∷ last ∷ []) = ap (count_by p) blocks in
          omega arith
      | inr le ↦
          let blocks : touched first last ≡ first ∷ [] = cond-false (ltb first last) (first ∷ last ∷ []) (first ∷ []) (le-ltb first last le) in
          let a : count_by p (first ∷ []) ≡ one (p first) + count_by p [] = sum_by-cons (λ (b : ℕ). cond (p b) 1 0) first [] in
          let all : more fs first last rows ≡ count_by p (first ∷ []) = ap (count_by p) blocks in
          omega arith
    ]

pub both_parts : (a b : Bool) → a && b ≡ true → (a ≡ true) × (b ≡ true)
both_parts true true e = (refl, refl)
both_parts true false e = absurd (let bad : false ≡ true = e in cc)
both_parts false b e = absurd (let bad : false ≡ true = e in cc)
