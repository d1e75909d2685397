-- What is known of the devices that one pool uses.
use Rattle.std.proofs.Common.{◌≡◌, inl, ℕ, false, List, [], ◌∷◌, map, Some, None, refl, sym, ◌∙◌, ap, subst}
use Rattle.std.specs.List.{slice_get, IsDistinct}
use Rattle.std.specs.Str.{bytes_eq}
use Rattle.std.proofs.lemmas.List.{append-nil}
use Rattle.st_units.specs.declared.rows.DevRow.{DevRow}
use Rattle.st_poolrec.specs.declared.record.PoolRec.{PoolRec}
use Rattle.st_flexlog.specs.declared.state.FlexState.{FlexState}
use Rattle.st_model.specs.declared.state.PoolState.{PoolState}
use Rattle.st_model.specs.declared.state.PoolMode.TheVariants.{Stopped}
use Rattle.st_model.specs.Checks.{cooled}
use Rattle.st_model.specs.Look.{flight_of, is_started}
use Rattle.st_model.specs.Merged.{merged}
use Rattle.st_model.specs.Sums.{cache_rows}
use Rattle.st_rack.specs.Device.{Path, Image}
use Rattle.st_rack.specs.Calls.{Devices, Rises, sectors_of}
use Rattle.st_image.specs.Bears.{Bears, HasRow, paths}
use Rattle.st_image.specs.Kept.{IsKeptAs, as_pair, in_use}
use Rattle.st_image.specs.Stands.{StandsFor, Whole, cold_cache, state_of}
use Rattle.st_image.specs.Survivors.{recorded}
use Rattle.st_image.proofs.Merged.{merged_twice}
use Rattle.st_parting.specs.Own.{used_by}
use Rattle.st_parting.proofs.Rows.{fit_of, mapped_at, at_mapped, all_at, all_by, path_of_row, rows_distinct}
use Rattle.st_parting.proofs.Same.{SameOnRows, whole_same, state_same}
use Rattle.st_parting.proofs.Using.{AreRows, RowsRight, row_has, candidates_same, alone_there, row_there}

-- other devices, where those of these rows have the same sectors
abbrev pub SameSizes : List DevRow → Devices → Devices → Type 0
SameSizes rows devs other = (j : ℕ) (row : DevRow) → slice_get rows j ≡ Some row → sectors_of other row.path ≡ sectors_of devs row.path

-- the devices in use bear what the rack bears of the pool
pub record Uses (p : ℕ) (pool : PoolState) (devs : Devices) (c : Image) (rises : Rises devs) : Type 0 where
  pub idle : is_started pool.mode ≡ false
  pub flight : flight_of pool.mode ≡ None
  pub g : ℕ
  pub rec : PoolRec
  pub rows : pool.devices ≡ rec.devs
  pub bears : Bears p devs g rec c
  pub are : AreRows p devs c rises g rec bears (in_use pool devs)
  pub distinct : IsDistinct bytes_eq (used_by pool devs)
  pub same : (other : Devices) → SameSizes rec.devs devs other → in_use pool other ≡ in_use pool devs
  pub stands : (m : Image) → ((k : ℕ) (d : Path × ℕ) → slice_get (in_use pool devs) k ≡ Some d → m d.0 ≡ c d.0) → StandsFor p (in_use pool devs) m (Some pool)
  pub kept : (other : Devices) → IsKeptAs pool other pool.mode (Some pool)

paths_of_rows : (rows : List DevRow) → paths (map as_pair rows) ≡ map path_of_row rows
paths_of_rows [] = refl
paths_of_rows (row ∷ rows) = ap (λ (l : List Path). row.path ∷ l) (paths_of_rows rows)

-- a merge of a cold pool is kept as it is
cold_recorded : (g : ℕ) (rec : PoolRec) (st : FlexState) (c : Image) → merged (state_of g rec st c) ≡ recorded (merged (state_of g rec st c))
cold_recorded g rec st c = sym (ap (λ (q : PoolState). cooled Stopped q) (merged_twice (state_of g rec st c)) ∙ by (cache_rows rec.devs))
  where
    by : (rows : List DevRow) → cooled Stopped (merged (record (state_of g rec st c) { cache = cold_cache rows })) ≡ merged (record (state_of g rec st c) { cache = cold_cache rows })
    by [] = refl
    by (row ∷ rows) = refl

module _ (p : ℕ) (devs : Devices) (c : Image) (rises : Rises devs) where
  module _ (g : ℕ) (rec : PoolRec) (st : FlexState) (whole : Whole p devs c g rec st) where
    pool : PoolState
    pool = merged (state_of g rec st c)

    list_is : in_use (merged (state_of g rec st c)) devs ≡ map as_pair rec.devs
    list_is = append-nil (map as_pair rec.devs)

    bears : Bears p devs g rec c
    bears = whole.bears.record_of

    has_row : (j : ℕ) (row : DevRow) → slice_get rec.devs j ≡ Some row → HasRow p devs c row
    has_row j row at = all_at (HasRow p devs c) rec.devs j row whole.bears.rows at

    right : RowsRight p devs c rises g rec bears
    right j row at n has = has_row j row at

    are_rows : AreRows p devs c rises g rec bears (map as_pair rec.devs)
    are_rows = record {
      each = λ k d at. (let one = mapped_at as_pair rec.devs k d at in (k, one.0, one.1, one.2, has_row k one.0 one.1));
      all = λ j row at n has. (j, at_mapped as_pair rec.devs j row at);
    }

    stands_here : (m : Image) → ((k : ℕ) (d : Path × ℕ) → slice_get (map as_pair rec.devs) k ≡ Some d → m d.0 ≡ c d.0) → StandsFor p (map as_pair rec.devs) m (Some (merged (state_of g rec st c)))
    stands_here m same =
        let held : SameOnRows rec.devs c m = λ j row at. same j (as_pair row) (at_mapped as_pair rec.devs j row at) in
        let cands = candidates_same p devs c rises g rec bears right (map as_pair rec.devs) are_rows m same in
        let alone = alone_there p devs c rises g rec bears right (map as_pair rec.devs) are_rows m same in
        let rows = all_by (HasRow p (map as_pair rec.devs) m) rec.devs (λ j row at. row_there p devs c rises g rec bears right (map as_pair rec.devs) are_rows m same j row at row.sectors (row_has p devs c rises g rec bears row (has_row j row at))) in
        inl (g, rec, st, whole_same p devs (map as_pair rec.devs) c m cands g rec st held alone rows whole, ap merged (sym (state_same p devs (map as_pair rec.devs) c m cands g rec st held whole)))

    pub whole_uses : Uses p (merged (state_of g rec st c)) devs c rises
    whole_uses = record {
      idle = refl;
      flight = refl;
      g = g;
      rec = rec;
      rows = refl;
      bears = bears;
      are = subst (AreRows p devs c rises g rec bears) (sym list_is) are_rows;
      distinct = subst (λ (l : List Path). IsDistinct bytes_eq l) (sym (ap paths list_is ∙ paths_of_rows rec.devs)) (rows_distinct rec.devs (fit_of rec bears.is).own);
      same = λ other sizes. refl;
      stands = λ m same. subst (λ (l : Devices). StandsFor p l m (Some (merged (state_of g rec st c)))) (sym list_is) (stands_here m (subst (λ (l : Devices). (k : ℕ) (d : Path × ℕ) → slice_get l k ≡ Some d → m d.0 ≡ c d.0) list_is same));
      kept = λ other. ap (λ (q : PoolState). Some q) (cold_recorded g rec st c);
    }
