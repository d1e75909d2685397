-- What holds of the mappings of a flex record.
use Rattle.std.proofs.Common.{◌≡◌, ◌⊎◌, inl, inr, ℕ, zero, suc, ◌/◌, ◌%◌, ◌^◌, ◌<◌, ◌≤◌, Bool, true, false, ◌&&◌, ◌||◌, nat_lt, nat_le, nat_eq, List, [], ◌∷◌, length, map, get_or, Option, Some, None, refl, sym, ap, ◌∙◌, subst, arith}
use Rattle.std.specs.Prelude.{◌==◌}
use Rattle.std.specs.List.{AllByRecursion, IsDistinct, slice_get}
use Rattle.std.proofs.lemmas.Bool.Decides.{nat_tests}
use Rattle.std.proofs.lemmas.List.{length-map}
use Rattle.std.proofs.lemmas.Option.{slice_get_within, slice_get-get_or, get_or_from_slice_get}
use Rattle.st_units.specs.declared.rows.FsRow.{FsRow}
use Rattle.st_limits.specs.declared.TheConstants.{BLOCK_SECTORS, MAX_FS_SECTORS}
use Rattle.st_flexrec.specs.declared.record.FlexRec.{FlexRec}
use Rattle.st_flexrec.specs.declared.rows.MapRow.{MapRow}
use Rattle.st_flexrec.specs.declared.rows.CellRow.{CellRow}
use Rattle.st_flexrec.specs.Filesystems.{is_size, is_limit, is_fs_row}
use Rattle.st_flexrec.specs.Mappings.{is_mapped_before, is_map_row, blocks_of}
use Rattle.st_flexrec.specs.Cells.{is_cell_row, place_of}
use Rattle.st_flexrec.specs.Conditions.{KeepsConditions}
use Rattle.st_flexrec.proofs.Counts.{mappings_few}
use Rattle.st_flexlog.specs.declared.state.Mapping.{Mapping}
use Rattle.st_flexlog.specs.State.{serial_at, with_cell, mapping_of}
use Rattle.st_flexlog.specs.Applied.{stands_before}
use Rattle.st_flexat.specs.Mapped.{AgreesWith}
use Rattle.st_flexat.proofs.Members.{In, in_at, in_map, passes, sorted_map}
use Rattle.st_flexat.proofs.Growing.{Tidy}

both_true : (a b : Bool) → (a && b) ≡ true → (a ≡ true) × (b ≡ true)
both_true true b is = (refl, is)
both_true false b is = absurd (cc)

lt_of : (a b : ℕ) → nat_lt a b ≡ true → a < b
lt_of a b is = grind (arith, nat_tests)

le_of : (a b : ℕ) → nat_le a b ≡ true → a ≤ b
le_of a b is = grind (arith, nat_tests)

in_get : {X : Type 0} (xs : List X) (k : ℕ) (x : X) → slice_get xs k ≡ Some x → In x xs
in_get [] k x is = absurd cc
in_get (y ∷ ys) zero x is = inl (let same : y ≡ x = cc in sym same)
in_get (y ∷ ys) (suc k) x is = inr (in_get ys k x is)

-- the fields of a mapping
fs_of : (f b : ℕ) (o : Option CellRow) → (with_cell f b o).fs ≡ f
fs_of f b None = refl
fs_of f b (Some c) = refl

block_of : (f b : ℕ) (o : Option CellRow) → (with_cell f b o).block ≡ b
block_of f b None = refl
block_of f b (Some c) = refl

-- no two of distinct numbers are one
distinct_at : (cells : List CellRow) (i j : ℕ) (a b : CellRow) → IsDistinct nat_eq (map place_of cells) → i < j → slice_get cells i ≡ Some a → slice_get cells j ≡ Some b → nat_eq a.place b.place ≡ false
unfolding IsDistinct
distinct_at [] i j a b distinct lt at_i at_j = absurd cc
distinct_at (c ∷ cs) i zero a b distinct lt at_i at_j = absurd (omega arith)
distinct_at (c ∷ cs) zero (suc j) a b distinct lt at_i at_j =
    let same : c ≡ a = cc in
    ap (λ (r : CellRow). nat_eq r.place b.place) (sym same) ∙ each cs j distinct.0 at_j
  where
    each : (rows : List CellRow) (k : ℕ) → AllByRecursion (λ y. nat_eq c.place y ≡ false) (map place_of rows) → slice_get rows k ≡ Some b → nat_eq c.place b.place ≡ false
    each [] k all at = absurd cc
    each (r ∷ rs) zero all at = (let same : r ≡ b = cc in ap (λ (q : CellRow). nat_eq c.place q.place) (sym same) ∙ all.0)
    each (r ∷ rs) (suc k) all at = each rs k all.1 at
distinct_at (c ∷ cs) (suc i) (suc j) a b distinct lt at_i at_j = distinct_at cs i j a b distinct.1 (omega arith) at_i at_j

module _ (rec : FlexRec) (kept : KeepsConditions rec) where
  abbrev rows : List MapRow
  rows = rec.mappings

  abbrev to : MapRow → Mapping
  to = mapping_of rec.filesystems rec.cells

  -- a row names a filesystem and a cell
  record IsRow (m : MapRow) : Type 0 where
    pub fs : FsRow
    pub fs_at : slice_get rec.filesystems m.fs ≡ Some fs
    pub cell : CellRow
    pub cell_at : slice_get rec.cells m.cell ≡ Some cell
    pub block : m.block < fs.size / BLOCK_SECTORS

  row_is : (m : MapRow) → In m rows → IsRow m
  row_is m is =
      let both = both_true (nat_lt m.block (blocks_of (slice_get rec.filesystems m.fs))) (nat_lt m.cell (length rec.cells)) (passes (is_map_row rec.filesystems (length rec.cells)) rows m kept.mappings.each_fits is) in
      with_fs (slice_get rec.filesystems m.fs) refl (lt_of m.block (blocks_of (slice_get rec.filesystems m.fs)) both.0) (lt_of m.cell (length rec.cells) both.1)
    where
      first : CellRow
      first = record { cell = 0; place = 0 }

      with_fs : (o : Option FsRow) → slice_get rec.filesystems m.fs ≡ o → m.block < blocks_of o → m.cell < length rec.cells → IsRow m
      with_fs None at lt cell = absurd (omega arith)
      with_fs (Some fs) at lt cell = record { fs = fs; fs_at = at; cell = get_or rec.cells m.cell first; cell_at = slice_get-get_or rec.cells m.cell first cell; block = lt }

  cell_of : (m : MapRow) (row : IsRow m) → to m ≡ record { fs = serial_at (slice_get rec.filesystems m.fs); block = m.block; cell = row.cell.cell; place = row.cell.place }
  cell_of m row = ap (with_cell (serial_at (slice_get rec.filesystems m.fs)) m.block) row.cell_at

  serial_of : (m : MapRow) (row : IsRow m) → (to m).fs ≡ row.fs.serial
  serial_of m row = fs_of (serial_at (slice_get rec.filesystems m.fs)) m.block (slice_get rec.cells m.cell) ∙ ap serial_at row.fs_at

  block_is : (m : MapRow) → (to m).block ≡ m.block
  block_is m = block_of (serial_at (slice_get rec.filesystems m.fs)) m.block (slice_get rec.cells m.cell)

  serials : (i j : ℕ) (a b : FsRow) → i < j → slice_get rec.filesystems i ≡ Some a → slice_get rec.filesystems j ≡ Some b → a.serial < b.serial
  serials i j a b lt at_i at_j =
      let rise = kept.filesystems.serials_rise i j a lt (slice_get_within rec.filesystems j b at_j) in
      let first : get_or rec.filesystems i a ≡ a = get_or_from_slice_get rec.filesystems i a a at_i in
      let second : get_or rec.filesystems j a ≡ b = get_or_from_slice_get rec.filesystems j b a at_j in
      lt_of a.serial b.serial ((λ i. nat_lt (sym first i).serial (sym second i).serial) ∙ rise)

  numbers : (i j : ℕ) (a b : CellRow) → i < j → slice_get rec.cells i ≡ Some a → slice_get rec.cells j ≡ Some b → a.cell < b.cell
  numbers i j a b lt at_i at_j =
      let rise = kept.cells.numbers_rise i j a lt (slice_get_within rec.cells j b at_j) in
      let first : get_or rec.cells i a ≡ a = get_or_from_slice_get rec.cells i a a at_i in
      let second : get_or rec.cells j a ≡ b = get_or_from_slice_get rec.cells j b a at_j in
      lt_of a.cell b.cell ((λ i. nat_lt (sym first i).cell (sym second i).cell) ∙ rise)

  -- ---- in order
  order : (x y : MapRow) → In x rows → In y rows → is_mapped_before x y ≡ true → stands_before (to x) (to y) ≡ true
  order x y is_x is_y before =
      let row_x = row_is x is_x in
      let row_y = row_is y is_y in
      (λ i. nat_lt (serial_of x row_x i) (serial_of y row_y i) || (nat_eq (serial_of x row_x i) (serial_of y row_y i) && nat_lt (block_is x i) (block_is y i)))
      ∙ by (nat_lt x.fs y.fs) (nat_eq x.fs y.fs) refl refl before row_x row_y
    where
      by : (less same : Bool) → nat_lt x.fs y.fs ≡ less → nat_eq x.fs y.fs ≡ same → (less || (same && nat_lt x.block y.block)) ≡ true → (a : IsRow x) (b : IsRow y)
          → (nat_lt a.fs.serial b.fs.serial || (nat_eq a.fs.serial b.fs.serial && nat_lt x.block y.block)) ≡ true
      by true same e f before a b = (let lt = serials x.fs y.fs a.fs b.fs (lt_of x.fs y.fs e) a.fs_at b.fs_at in grind (arith, nat_tests))
      by false true e f before a b =
          let one : x.fs ≡ y.fs = grind (arith, nat_tests) in
          let found : Some a.fs ≡ Some b.fs = sym a.fs_at ∙ ap (slice_get rec.filesystems) one ∙ b.fs_at in
          let row : a.fs ≡ b.fs = cc in
          let serial : a.fs.serial ≡ b.fs.serial = ap (λ (r : FsRow). r.serial) row in
          grind (arith, nat_tests)
      by false false e f before a b = absurd cc

  -- ---- cells and places
  pairs : (i j : ℕ) (a b : CellRow) → slice_get rec.cells i ≡ Some a → slice_get rec.cells j ≡ Some b → nat_eq a.cell b.cell ≡ nat_eq a.place b.place
  pairs i j a b at_i at_j = elim (three i j) [
    | inl lt ↦ differ (numbers i j a b lt at_i at_j) (distinct_at rec.cells i j a b kept.cells.places lt at_i at_j)
    | inr rest ↦ elim rest [
      | inl same ↦
          let found : Some a ≡ Some b = sym at_i ∙ ap (slice_get rec.cells) same ∙ at_j in
          let row : a ≡ b = cc in
          ap (λ (r : CellRow). nat_eq a.cell r.cell) (sym row) ∙ own a.cell ∙ sym (own a.place) ∙ ap (λ (r : CellRow). nat_eq a.place r.place) row
      | inr gt ↦ differ_back (numbers j i b a gt at_j at_i) (distinct_at rec.cells j i b a kept.cells.places gt at_j at_i)
    ]
  ]
    where
      three : (i j : ℕ) → (i < j) ⊎ ((i ≡ j) ⊎ (j < i))
      three i j = by (nat_lt i j) (nat_lt j i) refl refl
        where
          by : (less more : Bool) → nat_lt i j ≡ less → nat_lt j i ≡ more → (i < j) ⊎ ((i ≡ j) ⊎ (j < i))
          by true more e f = inl (lt_of i j e)
          by false true e f = inr (inr (lt_of j i f))
          by false false e f = inr (inl (grind (arith, nat_tests)))

      own : (n : ℕ) → nat_eq n n ≡ true
      own n = grind (arith, nat_tests)

      differ : a.cell < b.cell → nat_eq a.place b.place ≡ false → nat_eq a.cell b.cell ≡ nat_eq a.place b.place
      differ lt no_place = grind (arith, nat_tests)

      differ_back : b.cell < a.cell → nat_eq b.place a.place ≡ false → nat_eq a.cell b.cell ≡ nat_eq a.place b.place
      differ_back lt no_place = grind (arith, nat_tests)

  agree : (x y : MapRow) → In x rows → In y rows → AgreesWith (to x) (to y)
  agree x y is_x is_y =
      let row_x = row_is x is_x in
      let row_y = row_is y is_y in
      let a = cell_of x row_x in
      let b = cell_of y row_y in
      (λ i. nat_eq (a i).cell (b i).cell) ∙ pairs x.cell y.cell row_x.cell row_y.cell row_x.cell_at row_y.cell_at ∙ sym (λ i. nat_eq (a i).place (b i).place)

  -- ---- the whole
  below : (m : MapRow) → In m rows → (to m).block < 2 ^ 32
  below m is =
      let row = row_is m is in
      let fits = both_true (nat_le 1 row.fs.serial) (nat_lt row.fs.serial rec.next_fs && (is_size row.fs.size && is_limit row.fs.size row.fs.limit)) (passes (is_fs_row rec.next_fs) rec.filesystems row.fs kept.filesystems.each_fits (in_get rec.filesystems m.fs row.fs row.fs_at)) in
      let sized = both_true (is_size row.fs.size) (is_limit row.fs.size row.fs.limit) (both_true (nat_lt row.fs.serial rec.next_fs) (is_size row.fs.size && is_limit row.fs.size row.fs.limit) fits.1).1 in
      let small = both_true (nat_le BLOCK_SECTORS row.fs.size) (nat_le row.fs.size MAX_FS_SECTORS) (both_true (row.fs.size % BLOCK_SECTORS == 0) (nat_le BLOCK_SECTORS row.fs.size && nat_le row.fs.size MAX_FS_SECTORS) sized.0).1 in
      omega (arith, block_is m, row.block, le_of row.fs.size MAX_FS_SECTORS small.1)

  cell_below : (m : MapRow) → In m rows → (to m).cell < rec.next_cell
  cell_below m is =
      let row = row_is m is in
      let fits = both_true (nat_le 1 row.cell.cell) (nat_lt row.cell.cell rec.next_cell) (passes (is_cell_row rec.next_cell) rec.cells row.cell kept.cells.each_fits (in_get rec.cells m.cell row.cell row.cell_at)) in
      omega (arith, ap (λ (x : Mapping). x.cell) (cell_of m row), lt_of row.cell.cell rec.next_cell fits.1)

  row_at : (x : Mapping) → In x (map to rows) → (m : MapRow) × In m rows × (x ≡ to m)
  row_at x is =
      let at = in_map to rows x is in
      (get_or rows at.0 first, in_at rows at.0 first at.1, at.2 first)
    where
      first : MapRow
      first = record { fs = 0; block = 0; cell = 0 }

  pub record_tidy : Tidy rec.next_cell (map to rows)
  record_tidy = record {
    few = omega (arith, length-map rows to, mappings_few rec kept);
    rise = sorted_map to is_mapped_before stands_before rows kept.mappings.mappings_rise order;
    blocks = λ x is. (let m = row_at x is in subst (λ (y : Mapping). y.block < 2 ^ 32) (sym m.2) (below m.0 m.1));
    cells = λ x is. (let m = row_at x is in subst (λ (y : Mapping). y.cell < rec.next_cell) (sym m.2) (cell_below m.0 m.1));
    paired = λ x y is_x is_y. (let m = row_at x is_x in let n = row_at y is_y in
        subst (λ (u : Mapping). AgreesWith u y) (sym m.2) (subst (λ (v : Mapping). AgreesWith (to m.0) v) (sym n.2) (agree m.0 n.0 m.1 n.1)));
  }
