-- The rows of a record are few, and none is of too large a device; and what a count of blocks comes to.
use Rattle.std.proofs.Common.{◌≡◌, ℕ, zero, suc, ◌+◌, ◌≤◌, Bool, true, false, not, ◌&&◌, ◌||◌, cond, List, [], ◌∷◌, length, take, Option, Some, None, refl, ap, arith, leb}
use Rattle.std.specs.List.{AllByRecursion, list_all, list_any, slice_get}
use Rattle.std.proofs.lemmas.Bool.{and_parts, leb-true}
use Rattle.std.proofs.lemmas.List.{length-append}
use Rattle.st_limits.specs.declared.TheConstants.{MAX_POOL_DEVICES, MIN_DEVICE_SECTORS, MAX_DEVICE_SECTORS}
use Rattle.st_limits.specs.Sums.{cache_capacity}
use Rattle.st_units.specs.declared.rows.DevRow.{DevRow}
use Rattle.st_units.specs.declared.rows.Segment.{Segment}
use Rattle.st_units.specs.declared.rows.Tier.{Tier}
use Rattle.st_units.specs.declared.rows.Tier.TheVariants.{DataTier, CacheTier}
use Rattle.st_poolrec.specs.declared.record.PoolRec.{PoolRec}
use Rattle.st_poolrec.specs.Conditions.{most_filesystems, has_fit_size, begins_with_data, have_own_paths, take_in_order, rows_fit}
use Rattle.st_poolrec.specs.Record as pools
use Rattle.st_seg.specs.Blocks.{blocks_of, blocks_in}
use Rattle.st_seg.proofs.Parts.{length-blocks_from}
use Rattle.st_model.specs.declared.state.CacheState.{CacheState}
use Rattle.st_model.specs.Sums.{AreSmall, cache_rows, is_data, sectors_in}
use Rattle.st_image.specs.Stands.{cold_cache}

module _ (rec : PoolRec) (valid : pools.is_record rec ≡ true) where
  abbrev fit : Bool
  fit = rows_fit rec.devs rec.segments

  from_one : (leb 1 (length rec.devs) && (leb (length rec.devs) MAX_POOL_DEVICES && (leb (length rec.segments) MAX_POOL_DEVICES && fit))) ≡ true
  from_one = (and_parts (leb rec.fs_limit (most_filesystems rec.version2)) (leb 1 (length rec.devs) && (leb (length rec.devs) MAX_POOL_DEVICES && (leb (length rec.segments) MAX_POOL_DEVICES && fit))) valid).1

  from_two : (leb (length rec.devs) MAX_POOL_DEVICES && (leb (length rec.segments) MAX_POOL_DEVICES && fit)) ≡ true
  from_two = (and_parts (leb 1 (length rec.devs)) (leb (length rec.devs) MAX_POOL_DEVICES && (leb (length rec.segments) MAX_POOL_DEVICES && fit)) from_one).1

  from_three : (leb (length rec.segments) MAX_POOL_DEVICES && fit) ≡ true
  from_three = (and_parts (leb (length rec.devs) MAX_POOL_DEVICES) (leb (length rec.segments) MAX_POOL_DEVICES && fit) from_two).1

  pub some_rows : 1 ≤ length rec.devs
  some_rows = leb-true 1 (length rec.devs) (and_parts (leb 1 (length rec.devs)) (leb (length rec.devs) MAX_POOL_DEVICES && (leb (length rec.segments) MAX_POOL_DEVICES && fit)) from_one).0

  pub few_rows : length rec.devs ≤ MAX_POOL_DEVICES
  few_rows = leb-true (length rec.devs) MAX_POOL_DEVICES (and_parts (leb (length rec.devs) MAX_POOL_DEVICES) (leb (length rec.segments) MAX_POOL_DEVICES && fit) from_two).0

  pub few_segments : length rec.segments ≤ 16
  few_segments = leb-true (length rec.segments) MAX_POOL_DEVICES (and_parts (leb (length rec.segments) MAX_POOL_DEVICES) fit from_three).0

  rows_kept : fit ≡ true
  rows_kept = (and_parts (leb (length rec.segments) MAX_POOL_DEVICES) fit from_three).1

  sizes_kept : list_all has_fit_size rec.devs ≡ true
  sizes_kept =
      let one = (and_parts (begins_with_data rec.devs) (list_all has_fit_size rec.devs && (have_own_paths rec.devs && take_in_order 0 rec.segments rec.devs)) rows_kept).1 in
      (and_parts (list_all has_fit_size rec.devs) (have_own_paths rec.devs && take_in_order 0 rec.segments rec.devs) one).0

  pub sizes_fit : AllByRecursion (λ (row : DevRow). (MIN_DEVICE_SECTORS ≤ row.sectors) × (row.sectors ≤ MAX_DEVICE_SECTORS)) rec.devs
  sizes_fit = each rec.devs sizes_kept
    where
      each : (rows : List DevRow) → list_all has_fit_size rows ≡ true → AllByRecursion (λ (row : DevRow). (MIN_DEVICE_SECTORS ≤ row.sectors) × (row.sectors ≤ MAX_DEVICE_SECTORS)) rows
      each [] all = tt
      each (row ∷ rows) all =
          let both = and_parts (has_fit_size row) (list_all has_fit_size rows) all in
          let here = and_parts (leb MIN_DEVICE_SECTORS row.sectors) (leb row.sectors MAX_DEVICE_SECTORS) both.0 in
          ((leb-true MIN_DEVICE_SECTORS row.sectors here.0, leb-true row.sectors MAX_DEVICE_SECTORS here.1), each rows both.1)

  pub small_rows : AreSmall rec.devs
  small_rows = record { few = few_rows; small = less rec.devs sizes_fit }
    where
      less : (rows : List DevRow) → AllByRecursion (λ (row : DevRow). (MIN_DEVICE_SECTORS ≤ row.sectors) × (row.sectors ≤ MAX_DEVICE_SECTORS)) rows → AllByRecursion (λ (row : DevRow). row.sectors ≤ MAX_DEVICE_SECTORS) rows
      less [] all = tt
      less (row ∷ rows) all = (all.0.1, less rows all.1)

pub one_segment : (segments : List Segment) (i : ℕ) (s : Segment) → slice_get segments i ≡ Some s → length (blocks_of (take i segments)) + s.blocks ≡ length (blocks_of (take (suc i) segments))
one_segment [] i s at = absurd (cc)
one_segment (r ∷ rs) zero s at =
    let same : r ≡ s = cc in
    let own = length-append (blocks_in r) [] in
    let size = length-blocks_from r.dev r.first r.blocks in
    let n : r.blocks ≡ s.blocks = ap (λ (x : Segment). x.blocks) same in
    omega (arith, own, size, n)
one_segment (r ∷ rs) (suc i) s at =
    let rest = one_segment rs i s at in
    let now = length-append (blocks_in r) (blocks_of (take i rs)) in
    let more = length-append (blocks_in r) (blocks_of (take (suc i) rs)) in
    omega (arith, rest, now, more)

-- a cache where one of the rows is of its tier
pub cached : (rows : List DevRow) → list_any (λ (row : DevRow). not (is_data row.tier)) rows ≡ true → cold_cache (cache_rows rows) ≡ Some (record { capacity = cache_capacity (sectors_in (cache_rows rows)); cells = []; hits = 0; misses = 0 })
cached rows some = by (cache_rows rows) (not_empty rows some)
  where
    by : (list : List DevRow) → (list ≡ [] → ⊥) → cold_cache list ≡ Some (record { capacity = cache_capacity (sectors_in list); cells = []; hits = 0; misses = 0 })
    by [] never = absurd (never refl)
    by (row ∷ list) never = refl

    not_empty : (rs : List DevRow) → list_any (λ (row : DevRow). not (is_data row.tier)) rs ≡ true → cache_rows rs ≡ [] → ⊥
    not_empty [] is e = absurd (cc)
    not_empty (r ∷ rs) is e = one (not (is_data r.tier)) is e (not_empty rs)
      where
        one : (b : Bool) → (b || list_any (λ (row : DevRow). not (is_data row.tier)) rs) ≡ true → cond b (r ∷ cache_rows rs) (cache_rows rs) ≡ [] → (list_any (λ (row : DevRow). not (is_data row.tier)) rs ≡ true → cache_rows rs ≡ [] → ⊥) → ⊥
        one true is e rest = absurd (cc)
        one false is e rest = rest is e

pub uncached : (rows : List DevRow) → list_any (λ (row : DevRow). not (is_data row.tier)) rows ≡ false → cold_cache (cache_rows rows) ≡ None
uncached rows none = ap cold_cache (empty rows none)
  where
    empty : (rs : List DevRow) → list_any (λ (row : DevRow). not (is_data row.tier)) rs ≡ false → cache_rows rs ≡ []
    empty [] is = refl
    empty (r ∷ rs) is = one (not (is_data r.tier)) is (empty rs)
      where
        one : (b : Bool) → (b || list_any (λ (row : DevRow). not (is_data row.tier)) rs) ≡ false → (list_any (λ (row : DevRow). not (is_data row.tier)) rs ≡ false → cache_rows rs ≡ []) → cond b (r ∷ cache_rows rs) (cache_rows rs) ≡ []
        one true is rest = absurd (cc)
        one false is rest = rest is
