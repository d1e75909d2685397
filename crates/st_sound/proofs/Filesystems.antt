-- the filesystems of a pool whose log is sound
use Rattle.std.proofs.Common.{◌≡◌, ◌≢◌, inl, inr, ℕ, suc, zero, ◌+◌, ◌/◌, ◌%◌, ◌<◌, ◌≤◌, List, [], ◌∷◌, Bool, true, false, cond, not, ◌||◌, ◌&&◌, bytes_eq, filter, length, map, Option, Some, None, refl, ap, sym, subst, ◌∙◌, arith}
use Rattle.std.specs.Prelude.{slice_get, nat_eq, nat_le, nat_lt, ◌==◌}
use Rattle.std.specs.List.{AllByRecursion, list_all, list_any}
use Rattle.std.proofs.lemmas.Bool.{and_parts, cases_Bool, cases_lt}
use Rattle.st_limits.specs.declared.TheConstants.{BLOCK_SECTORS, MAX_FS_SECTORS}
use Rattle.st_units.specs.declared.rows.FsRow.{FsRow}
use Rattle.st_poolrec.specs.declared.record.PoolRec.{PoolRec}
use Rattle.st_flexrec.specs.Filesystems.{has_lower_serial, has_other_name, have_own_names, is_fs_row, is_limit, is_origin_in, is_size}
use Rattle.st_flexrec.specs.Filesystems as rows_of
use Rattle.st_flexrec.specs.Merges.{is_one_origin, is_unmarked, is_unmarked_at, is_unmarked_origin, marks_fit, may_merge, merge_apart, merges_apart}
use Rattle.st_flexrec.specs.declared.rows.CellRow.{CellRow}
use Rattle.st_flexlog.specs.declared.state.FlexState.{FlexState}
use Rattle.st_flexlog.specs.declared.state.Mapping.{Mapping}
use Rattle.st_flexlog.specs.Applied.{stands_before}
use Rattle.st_model.specs.declared.state.FsState.{FsState}
use Rattle.st_model.specs.declared.state.PoolState.{PoolState}
use Rattle.st_model.specs.ValidPool.{AreFsPair, EachPair, IsLimit, IsMap, IsMapping, IsMark, IsOrigin, IsSize, IsValidFs, has_number, has_serial, is_marked}
use Rattle.st_model.proofs.Lists.{All-filter, EachPair-filter, filter-passes}
use Rattle.st_rack.specs.Device.{Image}
use Rattle.st_image.specs.Stands.{cell_rows, cells_of, filesystems_of, map_of, state_of}
use Rattle.st_flexsound.specs.Sound.{IsMappingOf, IsSound}
use Rattle.st_flexsound.proofs.Lists.{All-at, All-both, All-from, All-map, All-weaker, all_true, pair_at, pairs, pairs-map}
use Rattle.st_parting.proofs.Newest.{some_same}
use Rattle.st_parting.proofs.Rows.{equal}
use Rattle.st_sound.proofs.Lists.{any-map, any_before, any_found, at_index, eq_of, eq_true, found_any, le_of, least_false, lt_of, not_both, not_true, pairs-both}
use Rattle.st_sound.proofs.Cells.{has_cell, rows_have}

abbrev pub fs_by : List Mapping → FsRow → FsState
fs_by mappings row = record { row = row; map = map_of mappings row.serial }

size_is : (n : ℕ) → is_size n ≡ true → IsSize n
size_is n e =
    let a = and_parts (n % BLOCK_SECTORS == 0) _ e in
    let b = and_parts (nat_le BLOCK_SECTORS n) (nat_le n MAX_FS_SECTORS) a.1 in
    record { whole = eq_of (n % BLOCK_SECTORS) 0 a.0; some = le_of BLOCK_SECTORS n b.0; bounded = le_of n MAX_FS_SECTORS b.1 }

limit_is : (size : ℕ) (limit : Option ℕ) → is_limit size limit ≡ true → IsLimit size limit
limit_is size None e = tt
limit_is size (Some n) e = let both = and_parts (is_size n) (nat_le size n) e in (size_is n both.0, le_of size n both.1)

own_names : (rows : List FsRow) → have_own_names rows ≡ true → EachPair (λ (a b : FsRow). has_other_name a b ≡ true) rows
own_names [] e = tt
own_names (r ∷ rs) e = let both = and_parts (list_all (has_other_name r) rs) (have_own_names rs) e in (all_true (has_other_name r) rs both.0, own_names rs both.1)

apart_all : (rows : List FsRow) → merge_apart rows ≡ true → EachPair (λ (a b : FsRow). merges_apart a b ≡ true) rows
apart_all [] e = tt
apart_all (r ∷ rs) e = let both = and_parts (list_all (merges_apart r) rs) (merge_apart rs) e in (all_true (merges_apart r) rs both.0, apart_all rs both.1)

-- rows without marks
unmarked_apart : (rows : List FsRow) → list_all is_unmarked rows ≡ true → EachPair (λ (a b : FsRow). merges_apart a b ≡ true) rows
unmarked_apart [] e = tt
unmarked_apart (r ∷ rs) e = let both = and_parts (is_unmarked r) (list_all is_unmarked rs) e in (each rs both.0, unmarked_apart rs both.1)
  where
    each : (qs : List FsRow) → is_unmarked r ≡ true → AllByRecursion (λ (b : FsRow). merges_apart r b ≡ true) qs
    each [] u = tt
    each (q ∷ qs) u = (ap (λ (t : Bool). not (t && (q.merge && is_one_origin r.origin q.origin))) (not_true r.merge u), each qs u)

marks_apart : (version2 : Bool) (rows : List FsRow) → marks_fit version2 rows ≡ true → EachPair (λ (a b : FsRow). merges_apart a b ≡ true) rows
marks_apart true rows e = apart_all rows (and_parts (list_all (may_merge rows) rows) (merge_apart rows) e).1
marks_apart false rows e = unmarked_apart rows e

marks_may : (version2 : Bool) (rows : List FsRow) → marks_fit version2 rows ≡ true → AllByRecursion (λ (r : FsRow). may_merge rows r ≡ true) rows
marks_may true rows e = all_true (may_merge rows) rows (and_parts (list_all (may_merge rows) rows) (merge_apart rows) e).0
marks_may false rows e = All-weaker (λ (r : FsRow). is_unmarked r ≡ true) (λ (r : FsRow). may_merge rows r ≡ true) rows (λ r u. ap (λ (t : Bool). t || is_unmarked_origin rows r.origin) u) (all_true is_unmarked rows e)

named_apart : (a b : FsRow) → has_other_name a b ≡ true → a.name ≢ b.name
named_apart a b e same = not_both (bytes_eq b.name a.name) (equal b.name a.name (sym same)) (not_true (bytes_eq b.name a.name) e)

origins_apart : (rows : List FsRow) (a b : FsRow) → may_merge rows a ≡ true → merges_apart a b ≡ true → a.merge ≡ true → b.merge ≡ true → a.origin ≢ b.origin
origins_apart rows a b may apart am bm same = by a.origin refl
  where
    alone : (m n : Bool) (o q : Option ℕ) → not (m && (n && is_one_origin o q)) ≡ true → m ≡ true → n ≡ true → is_one_origin o q ≡ false
    alone true true o q e f g = not_true (is_one_origin o q) e
    alone true false o q e f g = absurd cc
    alone false n o q e f g = absurd cc

    has_one : (m : Bool) (o : Option ℕ) → (not m || is_unmarked_origin rows o) ≡ true → m ≡ true → is_unmarked_origin rows o ≡ true
    has_one true o e f = e
    has_one false o e f = absurd cc

    by : (o : Option ℕ) → a.origin ≡ o → ⊥
    by None e = not_both (is_unmarked_origin rows a.origin) (has_one a.merge a.origin may am) (ap (is_unmarked_origin rows) e)
    by (Some n) e =
        not_both (is_one_origin a.origin b.origin)
        ((λ i. is_one_origin (e i) ((sym same ∙ e) i)) ∙ eq_true n n refl)
        (alone a.merge b.merge a.origin b.origin apart am bm)

module _ (g : ℕ) (rec : PoolRec) (st : FlexState) (c : Image) (sound : IsSound g st) where
  abbrev rows : List FsRow
  rows = st.filesystems

  abbrev pool : PoolState
  pool = state_of g rec st c

  rising : EachPair (λ (a b : FsRow). has_lower_serial a b ≡ true) rows
  rising = pairs (λ (a b : FsRow). has_lower_serial a b ≡ true) rows sound.filesystems.serials_rise

  may : AllByRecursion (λ (r : FsRow). may_merge rows r ≡ true) rows
  may = marks_may st.version2 rows sound.marks

  fits : AllByRecursion (λ (r : FsRow). is_fs_row st.next_fs r ≡ true) rows
  fits = all_true (is_fs_row st.next_fs) rows sound.filesystems.each_fits

  pub ordered : EachPair AreFsPair (filesystems_of st)
  ordered = pairs-map (λ (r : FsRow). may_merge rows r ≡ true) (λ (a b : FsRow). (has_lower_serial a b ≡ true) × ((has_other_name a b ≡ true) × (merges_apart a b ≡ true))) AreFsPair (fs_by st.mappings) rows
      (λ a b q r h. record { serials = lt_of a.serial b.serial h.0; names = named_apart a b h.1.0; marks = origins_apart rows a b q h.1.1 })
      may (pairs-both (λ (a b : FsRow). has_lower_serial a b ≡ true) (λ (a b : FsRow). (has_other_name a b ≡ true) × (merges_apart a b ≡ true)) rows rising
      (pairs-both (λ (a b : FsRow). has_other_name a b ≡ true) (λ (a b : FsRow). merges_apart a b ≡ true) rows (own_names rows sound.filesystems.names) (marks_apart st.version2 rows sound.marks)))

  -- a serial stands in one row
  one_row : (i j : ℕ) (a b : FsRow) → slice_get rows i ≡ Some a → slice_get rows j ≡ Some b → a.serial ≡ b.serial → a ≡ b
  one_row i j a b at_a at_b same = elim (cases_lt i j) [
    | inl less ↦ let low = lt_of a.serial b.serial (pair_at (λ (a b : FsRow). has_lower_serial a b ≡ true) rows i j a b rising less at_a at_b) in absurd (omega (arith, low, same))
    | inr most ↦ elim (cases_lt j i) [
      | inl more ↦ let low = lt_of b.serial a.serial (pair_at (λ (a b : FsRow). has_lower_serial a b ≡ true) rows j i b a rising more at_b at_a) in absurd (omega (arith, low, same))
      | inr least ↦ let is : i ≡ j = omega (arith, most, least) in some_same a b (sym at_a ∙ ap (slice_get rows) is ∙ at_b)
    ]
  ]

  has : (o : ℕ) → has_serial o (filesystems_of st) ≡ list_any (λ (r : FsRow). r.serial == o) rows
  has o = any-map (λ (fs : FsState). fs.row.serial == o) (fs_by st.mappings) rows

  marked : (o : ℕ) → is_marked o (filesystems_of st) ≡ list_any (λ (r : FsRow). r.merge && (r.serial == o)) rows
  marked o = any-map (λ (fs : FsState). fs.row.merge && (fs.row.serial == o)) (fs_by st.mappings) rows

  origin_is : (i : ℕ) (r : FsRow) → slice_get rows i ≡ Some r → (o : Option ℕ) → r.origin ≡ o → IsOrigin (filesystems_of st) r.serial o
  origin_is i r at None e = tt
  origin_is i r at (Some o) e =
      let here = at_index rows i r at in
      let earlier = sound.filesystems.origins i r here.0 in
      let named = any_before (rows_of.has_serial o) i rows (ap (λ (q : Option ℕ). is_origin_in (Rattle.std.proofs.Common.take i rows) q) (sym e ∙ ap (λ (x : FsRow). x.origin) (sym here.1)) ∙ earlier) in
      let same = eq_of named.1.serial o named.4 in
      let low = lt_of named.1.serial r.serial (pair_at (λ (a b : FsRow). has_lower_serial a b ≡ true) rows named.0 i named.1 r rising named.2 named.3 at) in
      (omega (arith, same, low), has o ∙ found_any (λ (x : FsRow). x.serial == o) rows named.0 named.1 named.3 named.4)

  mark_is : (r : FsRow) → may_merge rows r ≡ true → (m : Bool) (o : Option ℕ) → r.merge ≡ m → r.origin ≡ o → IsMark (filesystems_of st) m o
  mark_is r h false o e f = tt
  mark_is r h true o e f = by o f (must r.merge e h)
    where
      must : (m : Bool) → m ≡ true → (not m || is_unmarked_origin rows r.origin) ≡ true → is_unmarked_origin rows r.origin ≡ true
      must true e h = h
      must false e h = absurd cc

      by : (o : Option ℕ) → r.origin ≡ o → is_unmarked_origin rows r.origin ≡ true → IsMark (filesystems_of st) true o
      by None f u = absurd (let wrong = sym (ap (is_unmarked_origin rows) f) ∙ u in cc)
      by (Some n) f u =
          let plain = any_found (is_unmarked_at n) rows (sym (ap (is_unmarked_origin rows) f) ∙ u) in
          let own = and_parts (plain.1.serial == n) (not plain.1.merge) plain.3 in
          marked n ∙ least_false (list_any (λ (r : FsRow). r.merge && (r.serial == n)) rows) (λ hit. (
          let other = any_found (λ (r : FsRow). r.merge && (r.serial == n)) rows hit in
          let both = and_parts other.1.merge (other.1.serial == n) other.3 in
          let same : other.1 ≡ plain.1 = one_row other.0 plain.0 other.1 plain.1 other.2 plain.2 (eq_of other.1.serial n both.1 ∙ sym (eq_of plain.1.serial n own.0)) in
          not_both plain.1.merge (sym (ap (λ (x : FsRow). x.merge) same) ∙ both.0) (not_true plain.1.merge own.1)))

  -- the mappings of one filesystem
  abbrev of_fs : ℕ → Mapping → Bool
  of_fs serial m = nat_eq m.fs serial

  map_is : (serial : ℕ) → IsMap (map_of st.mappings serial)
  map_is serial = pairs-map (λ (m : Mapping). of_fs serial m ≡ true) (λ (a b : Mapping). stands_before a b ≡ true) (λ (x y : ℕ × ℕ). x.0 < y.0) (λ (m : Mapping). (m.block, m.cell)) (filter (of_fs serial) st.mappings)
      (λ a b p q h. lower a b (eq_of a.fs serial p) (eq_of b.fs serial q) h)
      (filter-passes (of_fs serial) st.mappings) (EachPair-filter (λ (a b : Mapping). stands_before a b ≡ true) (of_fs serial) st.mappings sound.sorted)
    where
      lower : (a b : Mapping) → a.fs ≡ serial → b.fs ≡ serial → stands_before a b ≡ true → a.block < b.block
      lower a b p q h = elim (cases_Bool (nat_lt a.fs b.fs)) [
        | inl less ↦ let low = lt_of a.fs b.fs less in absurd (omega (arith, low, p, q))
        | inr not_less ↦ lt_of a.block b.block (and_parts (a.fs == b.fs) (nat_lt a.block b.block) (ap (λ (t : Bool). t || ((a.fs == b.fs) && nat_lt a.block b.block)) (sym not_less) ∙ h)).1
      ]

  kept : AllByRecursion (λ (m : Mapping). has_number m.cell pool.cells ≡ true) st.mappings
  kept = All-weaker (λ (m : Mapping). has_cell m.cell (cell_rows st.mappings) ≡ true) (λ (m : Mapping). has_number m.cell pool.cells ≡ true) st.mappings
      (λ m h. any-map (λ (entry : ℕ × List ℕ). entry.0 == m.cell) (λ (row : CellRow). (row.cell, Rattle.st_image.specs.Stands.bytes_in c (Rattle.st_image.specs.Stands.range_of rec row.place))) (cell_rows st.mappings) ∙ h) (rows_have st.mappings)

  mapped_is : (i : ℕ) (r : FsRow) → slice_get rows i ≡ Some r → AllByRecursion (λ (entry : ℕ × ℕ). IsMapping pool (r.size / BLOCK_SECTORS) entry.0 entry.1) (map_of st.mappings r.serial)
  mapped_is i r at = All-map (λ (entry : ℕ × ℕ). IsMapping pool (r.size / BLOCK_SECTORS) entry.0 entry.1) (λ (m : Mapping). (m.block, m.cell)) (filter (of_fs r.serial) st.mappings)
      (All-weaker (λ (m : Mapping). (of_fs r.serial m ≡ true) × (IsMappingOf rows st.next_cell m × (has_number m.cell pool.cells ≡ true))) (λ (m : Mapping). IsMapping pool (r.size / BLOCK_SECTORS) m.block m.cell) (filter (of_fs r.serial) st.mappings) one
      (All-both (λ (m : Mapping). of_fs r.serial m ≡ true) (λ (m : Mapping). IsMappingOf rows st.next_cell m × (has_number m.cell pool.cells ≡ true)) (filter (of_fs r.serial) st.mappings) (filter-passes (of_fs r.serial) st.mappings)
      (All-filter (λ (m : Mapping). IsMappingOf rows st.next_cell m × (has_number m.cell pool.cells ≡ true)) (of_fs r.serial) st.mappings (All-both (IsMappingOf rows st.next_cell) (λ (m : Mapping). has_number m.cell pool.cells ≡ true) st.mappings sound.each kept))))
    where
      one : (m : Mapping) → (of_fs r.serial m ≡ true) × (IsMappingOf rows st.next_cell m × (has_number m.cell pool.cells ≡ true)) → IsMapping pool (r.size / BLOCK_SECTORS) m.block m.cell
      one m h =
          let there = any_found (λ (fs : FsRow). (m.fs == fs.serial) && nat_lt m.block (fs.size / BLOCK_SECTORS)) rows h.1.0.block in
          let both = and_parts (m.fs == there.1.serial) (nat_lt m.block (there.1.size / BLOCK_SECTORS)) there.3 in
          let same : there.1 ≡ r = one_row there.0 i there.1 r there.2 at (sym (eq_of m.fs there.1.serial both.0) ∙ eq_of m.fs r.serial h.0) in
          record {
            within = subst (λ (x : FsRow). m.block < x.size / BLOCK_SECTORS) same (lt_of m.block (there.1.size / BLOCK_SECTORS) both.1);
            from_one = h.1.0.cell_from;
            below_next = h.1.0.cell_until;
            kept = h.1.1;
          }

  fs_is : (i : ℕ) (r : FsRow) → slice_get rows i ≡ Some r → IsValidFs pool (fs_by st.mappings r)
  fs_is i r at =
      let row = All-at (λ (r : FsRow). is_fs_row st.next_fs r ≡ true) rows i r fits at in
      let a = and_parts (nat_le 1 r.serial) _ row in
      let b = and_parts (nat_lt r.serial st.next_fs) (is_size r.size && is_limit r.size r.limit) a.1 in
      let d = and_parts (is_size r.size) (is_limit r.size r.limit) b.1 in
      record {
        from_one = le_of 1 r.serial a.0;
        below_next = lt_of r.serial st.next_fs b.0;
        size = size_is r.size d.0;
        limit = limit_is r.size r.limit d.1;
        origin = origin_is i r at r.origin refl;
        mark = mark_is r (All-at (λ (r : FsRow). may_merge rows r ≡ true) rows i r may at) r.merge r.origin refl refl;
        map = map_is r.serial;
        mapped = mapped_is i r at;
      }

  pub each : AllByRecursion (IsValidFs pool) pool.filesystems
  each = All-map (IsValidFs pool) (fs_by st.mappings) rows (All-from (λ (r : FsRow). IsValidFs pool (fs_by st.mappings r)) rows fs_is)
