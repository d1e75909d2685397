-- A pool's devices have room for its records.
use Rattle.std.proofs.Common.{◌≡◌, ℕ, zero, suc, ◌<◌, ◌≤◌, Bool, true, false, ◌&&◌, leb, not, List, [], ◌∷◌, length, map, Some, refl, sym, ◌∙◌, ap, subst, arith}
use Rattle.std.specs.List.{slice_get, list_all}
use Rattle.std.specs.Str.{bytes_eq}
use Rattle.std.proofs.lemmas.Slice.Eq.{bytes_eq-Decides}
use Rattle.std.proofs.lemmas.Bool.{and_parts, leb-true}
use Rattle.st_limits.specs.declared.TheConstants.{MAX_POOL_DEVICES, MIN_DEVICE_SECTORS, MAX_DEVICE_SECTORS}
use Rattle.st_units.specs.declared.rows.DevRow.{DevRow}
use Rattle.st_poolrec.specs.declared.record.PoolRec.{PoolRec}
use Rattle.st_poolrec.specs.Conditions.{most_filesystems, begins_with_data, has_fit_size, has_other_path, have_own_paths, take_in_order, rows_fit}
use Rattle.st_poolrec.specs.Record as pools
use Rattle.st_rack.specs.Device.{Path}
use Rattle.st_rack.specs.Calls.{Devices, Has}
use Rattle.st_slots.specs.Places.{Lies}
use Rattle.st_commit.specs.Ready.{AreDistinct, IsOf}
use Rattle.st_image.specs.Looks.{pool_area, flex_area}
use Rattle.st_image.specs.Bears.{paths}
use Rattle.st_image.specs.Kept.{as_pair}
use Rattle.st_image.proofs.Committing.{some_device}
use Rattle.st_books.specs.Ready.{AreThere, rows_of}

-- what a record's rows keep
rows_kept : (rec : PoolRec) → pools.is_record rec ≡ true → rows_fit rec.devs rec.segments ≡ true
rows_kept rec valid =
    let one = (and_parts (leb rec.fs_limit (most_filesystems rec.version2)) (leb 1 (length rec.devs) && (leb (length rec.devs) MAX_POOL_DEVICES && (leb (length rec.segments) MAX_POOL_DEVICES && rows_fit rec.devs rec.segments))) valid).1 in
    let two = (and_parts (leb 1 (length rec.devs)) (leb (length rec.devs) MAX_POOL_DEVICES && (leb (length rec.segments) MAX_POOL_DEVICES && rows_fit rec.devs rec.segments)) one).1 in
    let three = (and_parts (leb (length rec.devs) MAX_POOL_DEVICES) (leb (length rec.segments) MAX_POOL_DEVICES && rows_fit rec.devs rec.segments) two).1 in
    (and_parts (leb (length rec.segments) MAX_POOL_DEVICES) (rows_fit rec.devs rec.segments) three).1

sizes_kept : (rec : PoolRec) → pools.is_record rec ≡ true → list_all has_fit_size rec.devs ≡ true
sizes_kept rec valid =
    let one = (and_parts (begins_with_data rec.devs) (list_all has_fit_size rec.devs && (have_own_paths rec.devs && take_in_order 0 rec.segments rec.devs)) (rows_kept rec valid)).1 in
    (and_parts (list_all has_fit_size rec.devs) (have_own_paths rec.devs && take_in_order 0 rec.segments rec.devs) one).0

paths_kept : (rec : PoolRec) → pools.is_record rec ≡ true → have_own_paths rec.devs ≡ true
paths_kept rec valid =
    let one = (and_parts (begins_with_data rec.devs) (list_all has_fit_size rec.devs && (have_own_paths rec.devs && take_in_order 0 rec.segments rec.devs)) (rows_kept rec valid)).1 in
    let two = (and_parts (list_all has_fit_size rec.devs) (have_own_paths rec.devs && take_in_order 0 rec.segments rec.devs) one).1 in
    (and_parts (have_own_paths rec.devs) (take_in_order 0 rec.segments rec.devs) two).0

all_at : (p : DevRow → Bool) (rows : List DevRow) (k : ℕ) (r : DevRow) → list_all p rows ≡ true → slice_get rows k ≡ Some r → p r ≡ true
all_at p [] k r all is = absurd (cc)
all_at p (x ∷ xs) zero r all is = subst (λ (y : DevRow). p y ≡ true) (some_inj x r is) (and_parts (p x) (list_all p xs) all).0
  where
    some_inj : (a b : DevRow) → Some a ≡ Some b → a ≡ b
    some_inj a b e = cc
all_at p (x ∷ xs) (suc k) r all is = all_at p xs k r (and_parts (p x) (list_all p xs) all).1 is

-- the row of a device
row_of : (rows : List DevRow) (k : ℕ) (d : Path) → slice_get (paths (map as_pair rows)) k ≡ Some d → (r : DevRow) × (slice_get rows k ≡ Some r) × (r.path ≡ d)
row_of [] k d is = absurd (cc)
row_of (r ∷ rows) zero d is = (r, refl, some_inj r.path d is)
  where
    some_inj : (a b : Path) → Some a ≡ Some b → a ≡ b
    some_inj a b e = cc
row_of (r ∷ rows) (suc k) d is = row_of rows k d is

pair_of : (rows : List DevRow) (k : ℕ) (r : DevRow) → slice_get rows k ≡ Some r → slice_get (map as_pair rows) k ≡ Some (as_pair r)
pair_of [] k r is = absurd (cc)
pair_of (x ∷ xs) zero r is = ap (λ (y : DevRow). Some (as_pair y)) (some_inj x r is)
  where
    some_inj : (a b : DevRow) → Some a ≡ Some b → a ≡ b
    some_inj a b e = cc
pair_of (x ∷ xs) (suc k) r is = pair_of xs k r is

pub distinct_paths : (rows : List DevRow) → have_own_paths rows ≡ true → AreDistinct (paths (map as_pair rows))
distinct_paths [] own i j d a b = absurd (cc)
distinct_paths (r ∷ rows) own zero zero d a b = refl
distinct_paths (r ∷ rows) own zero (suc j) d a b = absurd (differ (row_of rows j d b))
  where
    some_inj : (a b : Path) → Some a ≡ Some b → a ≡ b
    some_inj a b e = cc

    differ : (q : DevRow) × (slice_get rows j ≡ Some q) × (q.path ≡ d) → ⊥
    differ other =
        let miss = all_at (has_other_path r) rows j other.0 (and_parts (list_all (has_other_path r) rows) (have_own_paths rows) own).0 other.1 in
        let hit = (bytes_eq-Decides other.0.path r.path).1 (other.2 ∙ sym (some_inj r.path d a)) in
        clash (bytes_eq other.0.path r.path) hit miss
      where
        clash : (b : Bool) → b ≡ true → not b ≡ true → ⊥
        clash true e f = cc
        clash false e f = cc
distinct_paths (r ∷ rows) own (suc i) zero d a b = absurd (differ (row_of rows i d a))
  where
    some_inj : (a b : Path) → Some a ≡ Some b → a ≡ b
    some_inj a b e = cc

    differ : (q : DevRow) × (slice_get rows i ≡ Some q) × (q.path ≡ d) → ⊥
    differ other =
        let miss = all_at (has_other_path r) rows i other.0 (and_parts (list_all (has_other_path r) rows) (have_own_paths rows) own).0 other.1 in
        let hit = (bytes_eq-Decides other.0.path r.path).1 (other.2 ∙ sym (some_inj r.path d b)) in
        clash (bytes_eq other.0.path r.path) hit miss
      where
        clash : (b : Bool) → b ≡ true → not b ≡ true → ⊥
        clash true e f = cc
        clash false e f = cc
distinct_paths (r ∷ rows) own (suc i) (suc j) d a b = ap suc (distinct_paths rows (and_parts (list_all (has_other_path r) rows) (have_own_paths rows) own).1 i j d a b)

module _ (rec : PoolRec) (is : pools.IsPoolRec rec) (rack : Devices) (there : AreThere rack (rows_of rec)) where
  -- how large a device is
  sized : (k : ℕ) (d : Path) → slice_get (paths (rows_of rec)) k ≡ Some d → (n : ℕ) × Has rack d n × (8192 ≤ n)
  sized k d at =
      let row = row_of rec.devs k d at in
      let fit = all_at has_fit_size rec.devs k row.0 (sizes_kept rec is.valid) row.1 in (
        row.0.sectors,
        subst (λ (q : Path). Has rack q row.0.sectors) row.2 (there k (as_pair row.0) (pair_of rec.devs k row.0 row.1)),
        leb-true 8192 row.0.sectors (and_parts (leb MIN_DEVICE_SECTORS row.0.sectors) (leb row.0.sectors MAX_DEVICE_SECTORS) fit).0,
      )

  pub records_lie : (d : Path) → IsOf (paths (rows_of rec)) d → Lies rack d pool_area
  records_lie d of =
      let one = sized of.index d of.is in
      record { sectors = one.0; has = one.1; some = omega arith; on_it = omega (arith, one.2); small = omega arith }

  pub log_lies : (d : Path) → slice_get (paths (rows_of rec)) 0 ≡ Some d → Lies rack d flex_area.area
  log_lies d at =
      let one = sized 0 d at in
      record { sectors = one.0; has = one.1; some = omega arith; on_it = omega (arith, one.2); small = omega arith }

  pub own_paths : AreDistinct (paths (rows_of rec))
  own_paths = distinct_paths rec.devs (paths_kept rec is.valid)

  pub some_path : 0 < length (paths (rows_of rec))
  some_path = by rec.devs (some_device rec is.valid)
    where
      by : (rows : List DevRow) → 1 ≤ length rows → 0 < length (paths (map as_pair rows))
      by [] lt = absurd (omega arith)
      by (r ∷ rows) lt = omega arith
