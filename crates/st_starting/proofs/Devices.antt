-- The pool's devices among those of the rack.
use Rattle.std.proofs.Common.{◌≡◌, ◌≢◌, ◌⊎◌, inl, inr, ℕ, zero, suc, Bool, true, false, cond, List, [], ◌∷◌, unwrap_or, Option, Some, None, refl, sym, ◌∙◌, ap, subst}
use Rattle.std.specs.List.{slice_get}
use Rattle.std.specs.Str.{bytes_eq}
use Rattle.std.proofs.lemmas.Slice.Eq.{bytes_eq-Decides}
use Rattle.st_units.specs.declared.rows.DevRow.{DevRow}
use Rattle.st_rack.specs.Device.{Path}
use Rattle.st_rack.specs.Calls.{Devices, Has, size_in, sectors_of}
use Rattle.st_rack.proofs.Look.{same_or_other}
use Rattle.st_commit.specs.Ready.{IsOf}
use Rattle.st_image.specs.Bears.{paths}
use Rattle.st_starting.specs.Found.{sized}

pub some_same : {X : Type 0} (x y : X) → Some x ≡ Some y → x ≡ y
some_same x y e = cc

pub none_some : {X : Type 0} (x : X) → None ≡ Some x → ⊥
none_some x e = cc

-- a device that is there stands in a place
pub place_of : (ds : Devices) (path : Path) (n : ℕ) → Has ds path n → (j : ℕ) × (slice_get ds j ≡ Some (path, n))
place_of [] path n has = absurd (none_some n has)
place_of (d ∷ ds) path n has = by (bytes_eq d.0 path) refl has (λ rest. place_of ds path n rest)
  where
    by : (b : Bool) → bytes_eq d.0 path ≡ b → cond b (Some d.1) (sectors_of ds path) ≡ Some n → (sectors_of ds path ≡ Some n → (j : ℕ) × (slice_get ds j ≡ Some (path, n))) → (j : ℕ) × (slice_get (d ∷ ds) j ≡ Some (path, n))
    by true hit own later =
        let one : d.0 ≡ path = (bytes_eq-Decides d.0 path).0 hit in
        let two : d.1 ≡ n = some_same d.1 n own in
        (0, (λ i. Some (one i, two i)))
    by false miss rest later = let there = later rest in (suc there.0, there.1)

module _ (rack : Devices) where
  pub sized_at : (list : List Path) (k : ℕ) (d : Path × ℕ) → slice_get (sized rack list) k ≡ Some d → (slice_get list k ≡ Some d.0) × (d.1 ≡ size_in rack d.0)
  sized_at [] k d at = absurd (none_some d at)
  sized_at (q ∷ qs) zero d at =
      let same = some_same (q, size_in rack q) d at in
      (ap (λ (x : Path × ℕ). Some x.0) same, subst (λ (x : Path × ℕ). x.1 ≡ size_in rack x.0) same refl)
  sized_at (q ∷ qs) (suc k) d at = sized_at qs k d at

  pub paths_sized : (list : List Path) → paths (sized rack list) ≡ list
  paths_sized [] = refl
  paths_sized (q ∷ qs) = ap (λ (l : List Path). q ∷ l) (paths_sized qs)

  module _ (list : List Path) (there : (d : Path) → IsOf list d → (n : ℕ) × Has rack d n) where
    -- each of the pool's devices is one of the rack
    pub sized_has : (k : ℕ) (d : Path × ℕ) → slice_get (sized rack list) k ≡ Some d → Has rack d.0 d.1
    sized_has k d at =
        let own = sized_at list k d at in
        let has = there d.0 (record { index = k; is = own.0 }) in
        let size : d.1 ≡ has.0 = own.1 ∙ ap (λ (o : Option ℕ). unwrap_or o 0) has.1 in
        subst (λ (n : ℕ). Has rack d.0 n) (sym size) has.1

    pub sized_in : (k : ℕ) (d : Path × ℕ) → slice_get (sized rack list) k ≡ Some d → (j : ℕ) × (slice_get rack j ≡ Some d)
    sized_in k d at = place_of rack d.0 d.1 (sized_has k d at)

-- a row of this path, or none
pub row_or_none : (rows : List DevRow) (path : Path) → ((r : DevRow) × (k : ℕ) × (slice_get rows k ≡ Some r) × (r.path ≡ path)) ⊎ ((r : DevRow) (j : ℕ) → slice_get rows j ≡ Some r → r.path ≢ path)
row_or_none [] path = inr (λ r j at. absurd (none_some r at))
row_or_none (row ∷ rows) path = elim (same_or_other row.path path) [
  | inl e ↦ inl (row, 0, refl, e)
  | inr ne ↦ elim (row_or_none rows path) [
    | inl there ↦ inl (there.0, suc there.1, there.2, there.3)
    | inr none ↦ inr (λ r j at. by r j at ne none)
  ]
]
  where
    by : (r : DevRow) (j : ℕ) → slice_get (row ∷ rows) j ≡ Some r → row.path ≢ path → ((r : DevRow) (j : ℕ) → slice_get rows j ≡ Some r → r.path ≢ path) → r.path ≢ path
    by r zero at ne none = subst (λ (x : DevRow). x.path ≢ path) (some_same row r at) ne
    by r (suc j) at ne none = none r j at
