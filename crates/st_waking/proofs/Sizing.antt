-- Devices with the sizes that the engine knows.
use Rattle.std.proofs.Common.{◌≡◌, ℕ, zero, suc, ◌&&◌, Bool, true, false, cond, bytes_eq, length, List, [], ◌∷◌, take, Option, Some, None, refl, ap, subst, ◌∙◌, arith}
use Rattle.std.specs.Prelude.{option_map, slice_get}
use Rattle.std.specs.List.{list_all}
use Rattle.std.proofs.lemmas.Bool.Decides.{Decides-eqb}
use Rattle.std.proofs.lemmas.Slice.Eq.{bytes_eq-Decides}
use Rattle.st_units.specs.declared.rows.DevRow.{DevRow}
use Rattle.st_model.specs.Look.{row_of}
use Rattle.st_rack.specs.Device.{Path}
use Rattle.st_rack.specs.Calls.{Devices, Has, sectors_of}
use Rattle.st_waking.specs.Readies.{fits_in, is_sized}

module _ (f : Path × ℕ → Bool) where
  and_true : (b : Bool) → (b && true) ≡ b
  and_true true = refl
  and_true false = refl

  -- one more
  pub all_one : (ds : Devices) (i : ℕ) (d : Path × ℕ) → slice_get ds i ≡ Some d → list_all f (take (suc i) ds) ≡ (list_all f (take i ds) && f d)
  all_one [] zero d e = absurd cc
  all_one [] (suc i) d e = absurd cc
  all_one (x ∷ xs) zero d e = let same : x ≡ d = cc in and_true (f x) ∙ ap f same
  all_one (x ∷ xs) (suc i) d e = by (f x) (all_one xs i d e)
    where
      by : (b : Bool) → list_all f (take (suc i) xs) ≡ (list_all f (take i xs) && f d) → (b && list_all f (take (suc i) xs)) ≡ ((b && list_all f (take i xs)) && f d)
      by true h = h
      by false h = refl

  -- one that fails
  pub all_but_one : (ds : Devices) (i : ℕ) (d : Path × ℕ) → slice_get ds i ≡ Some d → f d ≡ false → list_all f ds ≡ false
  all_but_one [] zero d e off = absurd cc
  all_but_one [] (suc i) d e off = absurd cc
  all_but_one (x ∷ xs) zero d e off = let same : x ≡ d = cc in ap (λ (b : Bool). b && list_all f xs) (ap f same ∙ off)
  all_but_one (x ∷ xs) (suc i) d e off = by (f x) (all_but_one xs i d e off)
    where
      by : (b : Bool) → list_all f xs ≡ false → (b && list_all f xs) ≡ false
      by true h = h
      by false h = refl

  pub all_taken : (ds : Devices) (n : ℕ) → n ≡ length ds → take n ds ≡ ds
  all_taken [] zero e = refl
  all_taken [] (suc n) e = refl
  all_taken (x ∷ xs) zero e = absurd (omega (arith, e))
  all_taken (x ∷ xs) (suc n) e = ap (λ (ys : Devices). x ∷ ys) (all_taken xs n (omega (arith, e)))

sized : (n : ℕ) (o : Option ℕ) → is_sized n o ≡ true → o ≡ Some n
sized n None e = absurd cc
sized n (Some m) e = ap (λ (k : ℕ). Some k) ((Decides-eqb m n).0 e)

-- so each device has the size that the engine knows
pub all_sized : (rows : List DevRow) (ds : Devices) → list_all (fits_in rows) ds ≡ true → (d : Path) (n : ℕ) → Has ds d n → option_map (λ (row : DevRow). row.sectors) (row_of d rows) ≡ Some n
all_sized rows [] all d n has = absurd cc
all_sized rows (x ∷ xs) all d n has = by (fits_in rows x) refl all (bytes_eq x.0 d) refl has (λ rest. all_sized rows xs rest d n)
  where
    by : (b : Bool) → fits_in rows x ≡ b → (b && list_all (fits_in rows) xs) ≡ true → (c : Bool) → bytes_eq x.0 d ≡ c → cond c (Some x.1) (sectors_of xs d) ≡ Some n
        → (list_all (fits_in rows) xs ≡ true → Has xs d n → option_map (λ (row : DevRow). row.sectors) (row_of d rows) ≡ Some n) → option_map (λ (row : DevRow). row.sectors) (row_of d rows) ≡ Some n
    by false e a c k h rest = absurd cc
    by true e a false k h rest = rest a h
    by true e a true k h rest =
        let path : x.0 ≡ d = (bytes_eq-Decides x.0 d).0 k in
        let size : x.1 ≡ n = cc in
        subst (λ (p : Path). option_map (λ (row : DevRow). row.sectors) (row_of p rows) ≡ Some n) path (subst (λ (m : ℕ). option_map (λ (row : DevRow). row.sectors) (row_of x.0 rows) ≡ Some m) size (sized x.1 (option_map (λ (row : DevRow). row.sectors) (row_of x.0 rows)) e))
