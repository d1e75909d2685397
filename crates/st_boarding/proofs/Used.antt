-- The devices that a pool uses are those of its rows that the rack has.
use Rattle.std.proofs.Common.{◌≡◌, inl, inr, ℕ, suc, Bool, true, false, cond, List, [], ◌∷◌, map, Some, refl, sym, ◌∙◌, ap, subst}
use Rattle.std.specs.Prelude.{filter, is_some}
use Rattle.std.specs.List.{slice_get, IsDistinct}
use Rattle.std.specs.Str.{bytes_eq}
use Rattle.std.proofs.lemmas.List.{append-nil}
use Rattle.st_units.specs.declared.rows.DevRow.{DevRow}
use Rattle.st_model.specs.declared.state.PoolState.{PoolState}
use Rattle.st_rack.specs.Device.{Path, Image}
use Rattle.st_rack.specs.Calls.{Devices, Rises, sectors_of, size_in}
use Rattle.st_judge.proofs.Placed.{has_at}
use Rattle.st_image.specs.Bears.{HasRow, paths}
use Rattle.st_image.specs.Kept.{as_pair, present}
use Rattle.st_image.specs.Stands.{StandsFor}
use Rattle.st_parting.specs.Own.{used_by}
use Rattle.st_parting.proofs.Rows.{all_at, fit_of, rows_distinct}
use Rattle.st_dividing.specs.Divided.{path_of_row, present_of}

-- where each row is there, all are present
all_present : (devs : Devices) (rows : List DevRow) → ((j : ℕ) (row : DevRow) → slice_get rows j ≡ Some row → is_some (sectors_of devs row.path) ≡ true) → paths (map as_pair rows) ≡ present_of devs rows
all_present devs [] all = refl
all_present devs (row ∷ rows) all =
    let here = all 0 row refl in
    let rest = all_present devs rows (λ j r at. all (suc j) r at) in
    ap (λ (l : List Path). row.path ∷ l) rest ∙ ap (λ (b : Bool). cond b (row.path ∷ present_of devs rows) (present_of devs rows)) (sym here)

some_present : (devs : Devices) (rows : List DevRow) → paths (present rows devs) ≡ present_of devs rows
some_present devs [] = refl
some_present devs (row ∷ rows) = by (is_some (sectors_of devs row.path)) (some_present devs rows)
  where
    by : (b : Bool) → paths (present rows devs) ≡ present_of devs rows
        → paths (map (λ (r : DevRow). (r.path, size_in devs r.path)) (cond b (row ∷ filter (λ (r : DevRow). is_some (sectors_of devs r.path)) rows) (filter (λ (r : DevRow). is_some (sectors_of devs r.path)) rows)))
        ≡ cond b (row.path ∷ present_of devs rows) (present_of devs rows)
    by true rest = ap (λ (l : List Path). row.path ∷ l) rest
    by false rest = rest

module _ (p : ℕ) (devs : Devices) (c : Image) (rises : Rises devs) where
  pub used_is_present : (pool : PoolState) → StandsFor p devs c (Some pool) → used_by pool devs ≡ present_of devs pool.devices
  used_is_present pool (inl one) = subst (λ (q : PoolState). used_by q devs ≡ present_of devs q.devices) (sym one.4)
      (ap paths (append-nil (map as_pair one.1.devs)) ∙ all_present devs one.1.devs (λ j row at. (
      let has = all_at (HasRow p devs c) one.1.devs j row one.3.bears.rows at in
      ap is_some (has_at devs has.index (row.path, row.sectors) rises has.of))))
  used_is_present pool (inr one) = subst (λ (q : PoolState). used_by q devs ≡ present_of devs q.devices) (sym one.4)
      (ap paths (append-nil (present one.1.devs devs)) ∙ some_present devs one.1.devs)

  pub found_distinct : (pool : PoolState) → StandsFor p devs c (Some pool) → IsDistinct bytes_eq (map path_of_row pool.devices)
  found_distinct pool (inl one) = subst (λ (q : PoolState). IsDistinct bytes_eq (map path_of_row q.devices)) (sym one.4) (rows_distinct one.1.devs (fit_of one.1 one.3.bears.record_of.is).own)
  found_distinct pool (inr one) = subst (λ (q : PoolState). IsDistinct bytes_eq (map path_of_row q.devices)) (sym one.4) (rows_distinct one.1.devs (fit_of one.1 one.3.bears.is).own)
