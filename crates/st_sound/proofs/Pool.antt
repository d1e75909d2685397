-- the pool that whole records are, and the one that lacks a device
use Rattle.std.proofs.Common.{◌≡◌, ◌≢◌, ℕ, suc, zero, ◌+◌, ◌*◌, ◌/◌, ◌<◌, ◌≤◌, ◌^◌, List, [], ◌∷◌, Bool, true, false, cond, ◌||◌, ◌&&◌, bytes_eq, filter, length, map, Option, Some, refl, ap, sym, ◌∙◌, arith}
use Rattle.std.specs.Prelude.{slice_get, nat_eq, nat_le, nat_lt, ◌==◌}
use Rattle.std.specs.List.{AllByRecursion, list_all, list_any, sum_by}
use Rattle.std.proofs.lemmas.Bool.{and_parts}
use Rattle.std.proofs.lemmas.List.{length-map}
use Rattle.st_limits.specs.declared.TheConstants.{BLOCK_BYTES, BLOCK_SECTORS, MAX_DEVICE_SECTORS, MAX_MAPPINGS, MIN_DEVICE_SECTORS}
use Rattle.st_limits.specs.Sums.{cache_capacity}
use Rattle.st_units.specs.declared.rows.DevRow.{DevRow}
use Rattle.st_units.specs.declared.rows.FsRow.{FsRow}
use Rattle.st_units.specs.declared.rows.Tier.{Tier}
use Rattle.st_units.specs.declared.rows.Tier.TheVariants.{DataTier, CacheTier}
use Rattle.st_poolrec.specs.declared.record.PoolRec.{PoolRec}
use Rattle.st_poolrec.specs.Conditions.{begins_with_data, has_fit_size, has_other_path, have_own_paths, most_filesystems, take_in_order}
use Rattle.st_poolrec.specs.Record as pools
use Rattle.st_flexrec.specs.declared.rows.CellRow.{CellRow}
use Rattle.st_flexlog.specs.declared.state.FlexState.{FlexState}
use Rattle.st_flexlog.specs.declared.state.Mapping.{Mapping}
use Rattle.st_seg.specs.Blocks.{blocks_of}
use Rattle.st_linear.specs.Places.{place_of}
use Rattle.st_model.specs.declared.state.FsState.{FsState}
use Rattle.st_model.specs.declared.state.PoolState.{PoolState}
use Rattle.st_model.specs.Merged.{is_mapped, merged}
use Rattle.st_model.specs.Sums.{AreSmall, cache_rows, mappings}
use Rattle.st_model.specs.ValidPool.{AreDevices, EachPair, IsCacheOf, IsCell, IsColdIfAny, IsHalted, IsLacking, IsWhole, StartsWithData}
use Rattle.st_model.proofs.Lists.{EachPair-map}
use Rattle.st_model.proofs.Merging.{merged-whole}
use Rattle.st_model.proofs.Totals.{total, total-is}
use Rattle.st_rack.specs.Device.{Path, Image}
use Rattle.st_rack.proofs.Cells.{length-cells}
use Rattle.st_image.specs.Bears.{path_in}
use Rattle.st_image.specs.Stands.{bytes_in, cell_rows, cold_cache, lacking_of, map_of, missing, is_on, range_in, range_of, state_of}
use Rattle.st_flexsound.specs.Sound.{IsMappingOf, IsSound}
use Rattle.st_flexsound.proofs.Lists.{All-both, All-map, All-weaker, all_true, pairs}
use Rattle.st_parting.proofs.Blocks.{slice_at}
use Rattle.st_parting.proofs.Newest.{some_same, none_some}
use Rattle.st_parting.proofs.Rows.{equal}
use Rattle.st_sound.proofs.Lists.{any-map, any_found, eq_of, eq_true, found_any, le_of, lt_of, not_both, not_true, or_second}
use Rattle.st_sound.proofs.Cells.{rows_all, rows_few, rows_sorted}
use Rattle.st_sound.proofs.Filesystems.{each, ordered, fs_by}
use Rattle.st_sound.proofs.Segments.{allotted}

-- ---- what the conditions on a record say

record Fits (rec : PoolRec) : Type 0 where
  limit : rec.fs_limit ≤ most_filesystems rec.version2
  few : length rec.devs ≤ 16
  begins : begins_with_data rec.devs ≡ true
  sizes : list_all has_fit_size rec.devs ≡ true
  own : have_own_paths rec.devs ≡ true
  in_order : take_in_order 0 rec.segments rec.devs ≡ true

fits_of : (rec : PoolRec) → pools.IsPoolRec rec → Fits rec
fits_of rec is =
    let a = and_parts (nat_le rec.fs_limit (most_filesystems rec.version2)) _ is.valid in
    let b = and_parts (nat_le 1 (length rec.devs)) _ a.1 in
    let c = and_parts (nat_le (length rec.devs) 16) _ b.1 in
    let d = and_parts (nat_le (length rec.segments) 16) _ c.1 in
    let e = and_parts (begins_with_data rec.devs) _ d.1 in
    let f = and_parts (list_all has_fit_size rec.devs) _ e.1 in
    let g = and_parts (have_own_paths rec.devs) _ f.1 in
    record {
      limit = le_of rec.fs_limit (most_filesystems rec.version2) a.0;
      few = le_of (length rec.devs) 16 c.0;
      begins = e.0;
      sizes = f.0;
      own = g.0;
      in_order = g.1;
    }

starts : (rows : List DevRow) → begins_with_data rows ≡ true → StartsWithData rows
starts [] e = absurd cc
starts (d ∷ ds) e = by d.tier e
  where
    by : (t : Tier) → begins_with_data (record d { tier = t } ∷ ds) ≡ true → StartsWithData (record d { tier = t } ∷ ds)
    by DataTier e = refl
    by CacheTier e = absurd cc

paths_apart : (rows : List DevRow) → have_own_paths rows ≡ true → EachPair (λ (a b : DevRow). a.path ≢ b.path) rows
paths_apart [] e = tt
paths_apart (d ∷ ds) e =
    let both = and_parts (list_all (has_other_path d) ds) (have_own_paths ds) e in
    (All-weaker (λ (b : DevRow). has_other_path d b ≡ true) (λ (b : DevRow). d.path ≢ b.path) ds (λ b h same. not_both (bytes_eq b.path d.path) (equal b.path d.path (sym same)) (not_true (bytes_eq b.path d.path) h)) (all_true (has_other_path d) ds both.0), paths_apart ds both.1)

module _ (rec : PoolRec) (is : pools.IsPoolRec rec) where
  fit : Fits rec
  fit = fits_of rec is

  sized : AllByRecursion (λ (d : DevRow). has_fit_size d ≡ true) rec.devs
  sized = all_true has_fit_size rec.devs fit.sizes

  pub devices_small : AreSmall rec.devs
  devices_small = record {
    few = fit.few;
    small = All-weaker (λ (d : DevRow). has_fit_size d ≡ true) (λ (d : DevRow). d.sectors ≤ MAX_DEVICE_SECTORS) rec.devs (λ d h. le_of d.sectors MAX_DEVICE_SECTORS (and_parts (nat_le MIN_DEVICE_SECTORS d.sectors) (nat_le d.sectors MAX_DEVICE_SECTORS) h).1) sized;
  }

  pub devices_are : AreDevices rec.devs
  devices_are = record {
    first = starts rec.devs fit.begins;
    small = devices_small;
    large = All-weaker (λ (d : DevRow). has_fit_size d ≡ true) (λ (d : DevRow). MIN_DEVICE_SECTORS ≤ d.sectors) rec.devs (λ d h. le_of MIN_DEVICE_SECTORS d.sectors (and_parts (nat_le MIN_DEVICE_SECTORS d.sectors) (nat_le d.sectors MAX_DEVICE_SECTORS) h).0) sized;
    distinct = paths_apart rec.devs fit.own;
  }

  -- a pool that lacks a device
  pub lacks : (devs : List (Path × ℕ)) (path : Path) → missing rec.devs devs ≡ Some path → IsLacking (lacking_of rec path) path
  lacks devs path e = record {
    devices = devices_are;
    blank = record { filesystems = refl; cells = refl; next_cell = refl; next_filesystem = refl; allocated = refl; limit = refl; overprovisioning = refl; commits = refl; cache = refl };
    missing = named rec.devs e;
  }
    where
      named : (rows : List DevRow) → missing rows devs ≡ Some path → list_any (λ (row : DevRow). bytes_eq row.path path) rows ≡ true
      named [] e = absurd (none_some path e)
      named (row ∷ rows) e = by (is_on row.path devs) e (λ f. named rows f)
        where
          by : (b : Bool) → cond b (missing rows devs) (Some row.path) ≡ Some path → (missing rows devs ≡ Some path → list_any (λ (row : DevRow). bytes_eq row.path path) rows ≡ true) → list_any (λ (row : DevRow). bytes_eq row.path path) (row ∷ rows) ≡ true
          by true e later = or_second (bytes_eq row.path path) (list_any (λ (row : DevRow). bytes_eq row.path path) rows) (later e)
          by false e later = ap (λ (b : Bool). b || list_any (λ (row : DevRow). bytes_eq row.path path) rows) (equal row.path path (some_same row.path path e))

  module _ (g : ℕ) (st : FlexState) (c : Image) (sound : IsSound g st) (until : g ≤ 2 ^ 48) (places : AllByRecursion (λ (row : CellRow). row.place < length (blocks_of rec.segments)) (cell_rows st.mappings)) where
    abbrev pool : PoolState
    pool = state_of g rec st c

    -- each mapping is of one of the filesystems
    rows_apart : EachPair (λ (a b : FsRow). a.serial ≢ b.serial) st.filesystems
    rows_apart = weaker st.filesystems (pairs _ st.filesystems sound.filesystems.serials_rise)
      where
        weaker : (rows : List FsRow) → EachPair (λ (a b : FsRow). nat_lt a.serial b.serial ≡ true) rows → EachPair (λ (a b : FsRow). a.serial ≢ b.serial) rows
        weaker [] h = tt
        weaker (r ∷ rs) h = (All-weaker (λ (b : FsRow). nat_lt r.serial b.serial ≡ true) (λ (b : FsRow). r.serial ≢ b.serial) rs (λ b k same. (let low = lt_of r.serial b.serial k in omega (arith, low, same))) h.0, weaker rs h.1)

    -- the maps of distinct filesystems have no more entries than there are mappings
    abbrev entries : List Mapping → FsRow → ℕ
    entries ms r = length (map_of ms r.serial)

    no_entries : (rows : List FsRow) → total (entries []) rows ≡ 0
    no_entries [] = refl
    no_entries (r ∷ rs) = let rest = no_entries rs in omega (arith, rest)

    -- one mapping more
    one_more : (m : Mapping) (ms : List Mapping) (rows : List FsRow) → total (entries (m ∷ ms)) rows ≡ total (λ (r : FsRow). cond (nat_eq m.fs r.serial) 1 0) rows + total (entries ms) rows
    one_more m ms [] = refl
    one_more m ms (r ∷ rs) = by (nat_eq m.fs r.serial) (one_more m ms rs)
      where
        by : (b : Bool) → total (entries (m ∷ ms)) rs ≡ total (λ (r : FsRow). cond (nat_eq m.fs r.serial) 1 0) rs + total (entries ms) rs
            → length {A = ℕ × ℕ} (map (λ (m : Mapping). (m.block, m.cell)) (cond b (m ∷ filter (λ (m : Mapping). nat_eq m.fs r.serial) ms) (filter (λ (m : Mapping). nat_eq m.fs r.serial) ms))) + total (entries (m ∷ ms)) rs
            ≡ (cond b 1 0 + total (λ (r : FsRow). cond (nat_eq m.fs r.serial) 1 0) rs) + (entries ms r + total (entries ms) rs)
        by true h = omega (arith, h)
        by false h = omega (arith, h)

    none_more : (n : ℕ) (rows : List FsRow) → AllByRecursion (λ (r : FsRow). n ≢ r.serial) rows → total (λ (r : FsRow). cond (nat_eq n r.serial) 1 0) rows ≡ 0
    none_more n [] h = refl
    none_more n (r ∷ rs) h = (λ i. cond (Rattle.st_sound.proofs.Lists.ne_false n r.serial h.0 i) 1 0 + none_more n rs h.1 i)

    at_most_one : (n : ℕ) (rows : List FsRow) → EachPair (λ (a b : FsRow). a.serial ≢ b.serial) rows → total (λ (r : FsRow). cond (nat_eq n r.serial) 1 0) rows ≤ 1
    at_most_one n [] h = omega arith
    at_most_one n (r ∷ rs) h = by (nat_eq n r.serial) refl (at_most_one n rs h.1)
      where
        by : (b : Bool) → nat_eq n r.serial ≡ b → total (λ (r : FsRow). cond (nat_eq n r.serial) 1 0) rs ≤ 1 → cond b 1 0 + total (λ (r : FsRow). cond (nat_eq n r.serial) 1 0) rs ≤ 1
        by true e rest =
            let none = none_more n rs (All-weaker (λ (q : FsRow). r.serial ≢ q.serial) (λ (q : FsRow). n ≢ q.serial) rs (λ q k same. k (sym (eq_of n r.serial e) ∙ same)) h.0) in
            omega (arith, none)
        by false e rest = omega (arith, rest)

    few_entries : (ms : List Mapping) → total (entries ms) st.filesystems ≤ length ms
    few_entries [] = let none = no_entries st.filesystems in omega (arith, none)
    few_entries (m ∷ ms) =
        let rest = few_entries ms in
        let one = at_most_one m.fs st.filesystems rows_apart in
        let sum = one_more m ms st.filesystems in
        omega (arith, rest, one, sum)

    counted : (rows : List FsRow) → total (λ (fs : FsState). length fs.map) (map (fs_by st.mappings) rows) ≡ total (entries st.mappings) rows
    counted [] = refl
    counted (r ∷ rs) = ap (λ (n : ℕ). entries st.mappings r + n) (counted rs)

    few_mappings : mappings pool ≤ MAX_MAPPINGS
    few_mappings =
        let a = total-is (λ (fs : FsState). length fs.map) pool.filesystems in
        let b = counted st.filesystems in
        let d = few_entries st.mappings in
        let e = sound.few_mappings in
        omega (arith, a, b, d, e)

    -- the cell of each mapping is mapped
    mapped : AllByRecursion (λ (m : Mapping). is_mapped pool.filesystems m.cell ≡ true) st.mappings
    mapped = Rattle.st_flexsound.proofs.Lists.All-from (λ (m : Mapping). is_mapped pool.filesystems m.cell ≡ true) st.mappings one
      where
        one : (k : ℕ) (m : Mapping) → slice_get st.mappings k ≡ Some m → is_mapped pool.filesystems m.cell ≡ true
        one k m at =
            let there = any_found (λ (fs : FsRow). (m.fs == fs.serial) && nat_lt m.block (fs.size / BLOCK_SECTORS)) st.filesystems (Rattle.st_flexsound.proofs.Lists.All-at (IsMappingOf st.filesystems st.next_cell) st.mappings k m sound.each at).block in
            let own = and_parts (m.fs == there.1.serial) (nat_lt m.block (there.1.size / BLOCK_SECTORS)) there.3 in
            any-map (λ (fs : FsState). list_any (λ (entry : ℕ × ℕ). entry.1 == m.cell) fs.map) (fs_by st.mappings) st.filesystems
            ∙ found_any (λ (r : FsRow). list_any (λ (entry : ℕ × ℕ). entry.1 == m.cell) (map_of st.mappings r.serial)) st.filesystems there.0 there.1 there.2 (in_map there.1.serial own.0 st.mappings k at)
          where
            in_map : (serial : ℕ) → (m.fs == serial) ≡ true → (ms : List Mapping) (k : ℕ) → slice_get ms k ≡ Some m → list_any (λ (entry : ℕ × ℕ). entry.1 == m.cell) (map_of ms serial) ≡ true
            in_map serial e [] k at = absurd (none_some m at)
            in_map serial e (n ∷ ns) zero at = here (nat_eq n.fs serial) refl
              where
                same : n ≡ m
                same = some_same n m at

                here : (b : Bool) → nat_eq n.fs serial ≡ b → list_any (λ (entry : ℕ × ℕ). entry.1 == m.cell) (map (λ (m : Mapping). (m.block, m.cell)) (cond b (n ∷ filter (λ (m : Mapping). nat_eq m.fs serial) ns) (filter (λ (m : Mapping). nat_eq m.fs serial) ns))) ≡ true
                here true f = ap (λ (b : Bool). b || list_any (λ (entry : ℕ × ℕ). entry.1 == m.cell) (map_of ns serial)) (eq_true n.cell m.cell (ap (λ (x : Mapping). x.cell) same))
                here false f = absurd (not_both (nat_eq n.fs serial) (ap (λ (x : Mapping). nat_eq x.fs serial) same ∙ e) f)
            in_map serial e (n ∷ ns) (suc k) at = later (nat_eq n.fs serial) (in_map serial e ns k at)
              where
                later : (b : Bool) → list_any (λ (entry : ℕ × ℕ). entry.1 == m.cell) (map_of ns serial) ≡ true → list_any (λ (entry : ℕ × ℕ). entry.1 == m.cell) (map (λ (m : Mapping). (m.block, m.cell)) (cond b (n ∷ filter (λ (m : Mapping). nat_eq m.fs serial) ns) (filter (λ (m : Mapping). nat_eq m.fs serial) ns))) ≡ true
                later true f = or_second (n.cell == m.cell) (list_any (λ (entry : ℕ × ℕ). entry.1 == m.cell) (map_of ns serial)) f
                later false f = f

    full : (place : ℕ) → place < length (blocks_of rec.segments) → length (bytes_in c (range_of rec place)) ≡ BLOCK_BYTES
    full place low =
        let one = slice_at (blocks_of rec.segments) place low in
        ap (λ (o : Option (ℕ × ℕ)). length (bytes_in c (range_in rec.devs o))) (ap (λ (o : Option (ℕ × ℕ)). Rattle.std.specs.Option.option_map place_of o) one.1)
        ∙ length-cells (c (path_in (slice_get rec.devs one.0.0))) (512 * (place_of one.0).1) BLOCK_BYTES

    cells_are : AllByRecursion (λ (entry : ℕ × List ℕ). IsCell pool entry.0 entry.1) pool.cells
    cells_are = All-map (λ (entry : ℕ × List ℕ). IsCell pool entry.0 entry.1) (λ (row : CellRow). (row.cell, bytes_in c (range_of rec row.place))) (cell_rows st.mappings)
        (All-weaker (λ (row : CellRow). (row.place < length (blocks_of rec.segments)) × (is_mapped pool.filesystems row.cell ≡ true)) (λ (row : CellRow). IsCell pool row.cell (bytes_in c (range_of rec row.place))) (cell_rows st.mappings)
        (λ row h. record { mapped = h.1; full = full row.place h.0 })
        (All-both (λ (row : CellRow). row.place < length (blocks_of rec.segments)) (λ (row : CellRow). is_mapped pool.filesystems row.cell ≡ true) (cell_rows st.mappings) places (rows_all (λ (row : CellRow). is_mapped pool.filesystems row.cell ≡ true) st.mappings mapped)))

    limit_low : (v : Bool) → rec.fs_limit ≤ most_filesystems v → rec.fs_limit ≤ 256
    limit_low true h = omega (arith, h)
    limit_low false h = omega (arith, h)

    cold_of : (rows : List DevRow) → cache_rows rec.devs ≡ rows → IsCacheOf pool (cold_cache rows)
    cold_of [] e = e
    cold_of (row ∷ rows) e = record {
      on = let size = ap length e in omega (arith, size);
      capacity = ap (λ (l : List DevRow). cache_capacity (Rattle.st_model.specs.Sums.sectors_in l)) (sym e);
      few = omega arith;
      distinct = tt;
      kept = tt;
      hits = omega arith;
      misses = omega arith;
    }

    is_cold : (rows : List DevRow) → IsColdIfAny (cold_cache rows)
    is_cold [] = tt
    is_cold (row ∷ rows) = record { empty = refl; hits = refl; misses = refl }

    whole : IsWhole pool
    whole = record {
      devices = devices_are;
      ordered = ordered g rec st c sound;
      filesystems = each g rec st c sound;
      count = let size = length-map st.filesystems (fs_by st.mappings) in let few = sound.few_filesystems in omega (arith, size, few);
      mappings = few_mappings;
      cell_map = EachPair-map (λ (a b : ℕ × List ℕ). a.0 < b.0) (λ (row : CellRow). (row.cell, bytes_in c (range_of rec row.place))) (cell_rows st.mappings) (rows_sorted st.mappings);
      cells = cells_are;
      used = let size = length-map {B = ℕ × List ℕ} (cell_rows st.mappings) (λ (row : CellRow). (row.cell, bytes_in c (range_of rec row.place))) in let few = rows_few st.mappings sound.places (length (blocks_of rec.segments)) places in omega (arith, size, few);
      allocated = allotted rec.segments rec.devs fit.begins fit.in_order;
      cell_from_one = sound.cell_from;
      cell_bounded = sound.cell_until;
      filesystem_from_one = sound.fs_from;
      filesystem_bounded = sound.fs_until;
      commits = until;
      limit = limit_low rec.version2 fit.limit;
      cache = cold_of (cache_rows rec.devs) refl;
    }

    -- the merge, not started
    pub halted : IsHalted (merged pool)
    halted = record { whole = merged-whole pool whole; cold = still (cache_rows rec.devs) }
      where
        still : (rows : List DevRow) → IsColdIfAny (merged (record pool { cache = cold_cache rows })).cache
        still [] = tt
        still (row ∷ rows) = record { empty = refl; hits = refl; misses = refl }
