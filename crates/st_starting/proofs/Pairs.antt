-- Rows that are a rack's devices.
use Rattle.std.proofs.Common.{◌≡◌, ℕ, zero, suc, List, [], ◌∷◌, length, map, Some, refl, sym, ◌∙◌, ap}
use Rattle.std.specs.List.{slice_get}
use Rattle.st_units.specs.declared.rows.DevRow.{DevRow}
use Rattle.st_rack.specs.Device.{Path}
use Rattle.st_rack.specs.Calls.{Devices, size_in}
use Rattle.st_image.specs.Kept.{as_pair}
use Rattle.st_starting.specs.Found.{sized}
use Rattle.st_starting.proofs.Devices.{some_same, none_some}

module _ (rack : Devices) where
  pub pairs_same : (rows : List DevRow) (list : List Path) → length rows ≡ length list → ((j : ℕ) (row : DevRow) (d : Path) → slice_get rows j ≡ Some row → slice_get list j ≡ Some d → as_pair row ≡ (d, size_in rack d)) → map as_pair rows ≡ sized rack list
  pairs_same [] [] same each = refl
  pairs_same [] (d ∷ ds) same each = absurd (cc)
  pairs_same (row ∷ rows) [] same each = absurd (cc)
  pairs_same (row ∷ rows) (d ∷ ds) same each =
      let here : as_pair row ≡ (d, size_in rack d) = each 0 row d refl refl in
      let fewer : length rows ≡ length ds = cc in
      let rest = pairs_same rows ds fewer (λ j r e at_r at_e. each (suc j) r e at_r at_e) in
      (λ i. here i ∷ rest i)

  pub pairs_length : (rows : List DevRow) (list : List Path) → map as_pair rows ≡ sized rack list → length rows ≡ length list
  pairs_length [] [] same = refl
  pairs_length [] (d ∷ ds) same = absurd (cc)
  pairs_length (row ∷ rows) [] same = absurd (cc)
  pairs_length (row ∷ rows) (d ∷ ds) same =
      let rest : map as_pair rows ≡ sized rack ds = cc in
      ap suc (pairs_length rows ds rest)

  pub pairs_at : (rows : List DevRow) (list : List Path) → map as_pair rows ≡ sized rack list → (j : ℕ) (row : DevRow) (d : Path) → slice_get rows j ≡ Some row → slice_get list j ≡ Some d → as_pair row ≡ (d, size_in rack d)
  pairs_at [] list same j row d at_row at = absurd (none_some row at_row)
  pairs_at (r ∷ rows) [] same j row d at_row at = absurd (none_some d at)
  pairs_at (r ∷ rows) (e ∷ ds) same zero row d at_row at =
      let here : as_pair r ≡ (e, size_in rack e) = cc in
      let one = some_same r row at_row in
      let two = some_same e d at in
      sym (ap as_pair one) ∙ here ∙ (λ i. (two i, size_in rack (two i)))
  pairs_at (r ∷ rows) (e ∷ ds) same (suc j) row d at_row at =
      let rest : map as_pair rows ≡ sized rack ds = cc in
      pairs_at rows ds rest j row d at_row at
