-- what a log says is sound
use Rattle.std.proofs.Common.{◌≡◌, ℕ, suc, zero, ◌+◌, ◌*◌, ◌/◌, ◌<◌, ◌≤◌, ◌==◌, List, [], ◌∷◌, Bool, true, false, cond, ◌&&◌, ◌||◌, not, length, map, Option, Some, None, inl, inr, ◌⊎◌, refl, sym, ap, subst, ◌∙◌, arith}
use Rattle.std.specs.Prelude.{slice_get, nat_lt, nat_le, nat_eq}
use Rattle.std.specs.List.{AllByRecursion, IsDistinct, list_all, list_any}
use Rattle.std.proofs.lemmas.List.{length-map}
use Rattle.std.proofs.lemmas.Option.{slice_get-map}
use Rattle.std.proofs.lemmas.Grind.{common_steps}
use Rattle.st_limits.specs.declared.TheConstants.{BLOCK_SECTORS, MAX_FILESYSTEMS, MAX_MAPPINGS}
use Rattle.st_units.specs.declared.rows.FsRow.{FsRow}
use Rattle.st_flexrec.specs.declared.record.FlexRec.{FlexRec}
use Rattle.st_flexrec.specs.declared.rows.CellRow.{CellRow}
use Rattle.st_flexrec.specs.declared.rows.MapRow.{MapRow}
use Rattle.st_flexrec.specs.Cells.{is_cell_row, place_of}
use Rattle.st_flexrec.specs.Conditions.{IsFlexRec, most_filesystems}
use Rattle.st_flexrec.specs.Filesystems.{has_lower_serial}
use Rattle.st_flexrec.specs.Mappings.{blocks_of, is_map_row, is_mapped_before}
use Rattle.st_flexlog.specs.declared.delta.Delta.{Delta}
use Rattle.st_flexlog.specs.declared.delta.DeltaRow.{DeltaRow}
use Rattle.st_flexlog.specs.declared.state.FlexState.{FlexState}
use Rattle.st_flexlog.specs.declared.state.Mapping.{Mapping}
use Rattle.st_flexlog.specs.Applied.{after_rows, applied, applied_if, are_mappings, are_of_one, blocks_rise, cells_follow, has_other_place, has_own_place, is_of_fs, may_come, put_rows, stands_before}
use Rattle.st_flexlog.specs.Delta.{delta_of, rows_of}
use Rattle.st_flexlog.specs.Said.{replayed, then_applied}
use Rattle.st_flexlog.specs.State.{mapping_of, serial_at, state_of, with_cell}
use Rattle.st_model.specs.ValidPool.{EachPair}
use Rattle.st_flexsound.specs.Sound.{HaveOwnPlace, IsMappingOf, IsSound, SaysSound}
use Rattle.st_flexsound.proofs.Lists.{All-at, All-both, All-from, All-map, All-weaker, all_true, distinct_at, pair_at, pairs, pairs-map}
use Rattle.st_flexsound.proofs.Putting.{All-rows, sorted-rows}

and_left : (a b : Bool) → (a && b) ≡ true → a ≡ true
and_left true b e = refl
and_left false b e = absurd cc

and_right : (a b : Bool) → (a && b) ≡ true → b ≡ true
and_right true b e = e
and_right false b e = absurd cc

le_of : (a b : ℕ) → nat_le a b ≡ true → a ≤ b
le_of a b e = grind (arith, common_steps)

lt_of : (a b : ℕ) → nat_lt a b ≡ true → a < b
lt_of a b e = grind (arith, common_steps)

eq_of : (a b : ℕ) → (a == b) ≡ true → a ≡ b
eq_of a b e = grind (arith, common_steps)

same_number : (a : ℕ) → (a == a) ≡ true
same_number a = grind (arith, common_steps)

or_true : (a b : Bool) → b ≡ true → (a || b) ≡ true
or_true true b f = refl
or_true false b f = f

one_row : (r q : FsRow) → Some r ≡ Some q → r ≡ q
one_row r q h = cc

last_so : (x y z : Bool) → y ≡ true → z ≡ true → (x || (y && z)) ≡ true
last_so true y z h k = refl
last_so false y z h k = ap (λ (t : Bool). t && z) h ∙ k

-- ---- a mapping of a record

fs_is : (fs block : ℕ) (o : Option CellRow) → (with_cell fs block o).fs ≡ fs
fs_is fs block None = refl
fs_is fs block (Some c) = refl

block_is : (fs block : ℕ) (o : Option CellRow) → (with_cell fs block o).block ≡ block
block_is fs block None = refl
block_is fs block (Some c) = refl

-- the row and the cell that a mapping names
record Named (filesystems : List FsRow) (cells : List CellRow) (m : MapRow) : Type 0 where
  row : FsRow
  row_at : slice_get filesystems m.fs ≡ Some row
  within : nat_lt m.block (row.size / BLOCK_SECTORS) ≡ true
  cell : CellRow
  cell_at : slice_get cells m.cell ≡ Some cell

there : {X : Type 0} (xs : List X) (k : ℕ) → k < length xs → (x : X) × (slice_get xs k ≡ Some x)
there [] k lt = absurd (omega (arith, lt))
there (x ∷ xs) zero lt = (x, refl)
there (x ∷ xs) (suc k) lt = there xs k (omega (arith, lt))

row_named : (o : Option FsRow) (block : ℕ) → nat_lt block (blocks_of o) ≡ true → (r : FsRow) × (o ≡ Some r) × (nat_lt block (r.size / BLOCK_SECTORS) ≡ true)
row_named None block e = absurd (let no = lt_of block 0 e in omega (arith, no))
row_named (Some r) block e = (r, refl, e)

named : (filesystems : List FsRow) (cells : List CellRow) (m : MapRow) → is_map_row filesystems (length cells) m ≡ true → Named filesystems cells m
named filesystems cells m e =
    let row = row_named (slice_get filesystems m.fs) m.block (and_left _ (nat_lt m.cell (length cells)) e) in
    let cell = there cells m.cell (lt_of m.cell (length cells) (and_right (nat_lt m.block (blocks_of (slice_get filesystems m.fs))) _ e)) in
    record { row = row.0; row_at = row.1; within = row.2; cell = cell.0; cell_at = cell.1 }

mapping_is : (filesystems : List FsRow) (cells : List CellRow) (m : MapRow) (n : Named filesystems cells m) → mapping_of filesystems cells m ≡ record { fs = n.row.serial; block = m.block; cell = n.cell.cell; place = n.cell.place }
mapping_is filesystems cells m n = ap (λ (o : Option FsRow). with_cell (serial_at o) m.block (slice_get cells m.cell)) n.row_at ∙ ap (with_cell n.row.serial m.block) n.cell_at

any_at : (p : FsRow → Bool) (xs : List FsRow) (k : ℕ) (x : FsRow) → slice_get xs k ≡ Some x → p x ≡ true → list_any p xs ≡ true
any_at p [] zero x e h = absurd cc
any_at p [] (suc k) x e h = absurd cc
any_at p (y ∷ ys) zero x e h = let same : y ≡ x = cc in ap (λ (b : Bool). b || list_any p ys) (subst (λ (z : FsRow). p z ≡ true) (sym same) h)
any_at p (y ∷ ys) (suc k) x e h = or_true (p y) (list_any p ys) (any_at p ys k x e h)

module _ (c : ℕ) (rec : FlexRec) (is : IsFlexRec c rec) where
  all_named : AllByRecursion (Named rec.filesystems rec.cells) rec.mappings
  all_named = All-weaker _ _ rec.mappings (λ m e. named rec.filesystems rec.cells m e) (all_true _ rec.mappings is.kept.mappings.each_fits)

  cell_rows_fit : AllByRecursion (λ (r : CellRow). is_cell_row rec.next_cell r ≡ true) rec.cells
  cell_rows_fit = all_true _ rec.cells is.kept.cells.each_fits

  abbrev as_mapping : MapRow → Mapping
  as_mapping = mapping_of rec.filesystems rec.cells

  begun_each : AllByRecursion (IsMappingOf rec.filesystems rec.next_cell) (state_of rec).mappings
  begun_each = All-map (IsMappingOf rec.filesystems rec.next_cell) as_mapping rec.mappings (All-weaker _ _ rec.mappings (λ m n. subst (IsMappingOf rec.filesystems rec.next_cell) (sym (mapping_is rec.filesystems rec.cells m n)) (fits m n)) all_named)
    where
      fits : (m : MapRow) (n : Named rec.filesystems rec.cells m) → IsMappingOf rec.filesystems rec.next_cell (record { fs = n.row.serial; block = m.block; cell = n.cell.cell; place = n.cell.place })
      fits m n =
          let cell = All-at _ rec.cells m.cell n.cell cell_rows_fit n.cell_at in
          record {
            block = any_at _ rec.filesystems m.fs n.row n.row_at (ap (λ (b : Bool). b && nat_lt m.block (n.row.size / BLOCK_SECTORS)) (same_number n.row.serial) ∙ n.within);
            cell_from = le_of 1 n.cell.cell (and_left _ (nat_lt n.cell.cell rec.next_cell) cell);
            cell_until = lt_of n.cell.cell rec.next_cell (and_right (nat_le 1 n.cell.cell) _ cell);
          }

  rising : EachPair (λ (a b : FsRow). has_lower_serial a b ≡ true) rec.filesystems
  rising = pairs _ rec.filesystems is.kept.filesystems.serials_rise

  in_order : (a b : MapRow) → Named rec.filesystems rec.cells a → Named rec.filesystems rec.cells b → is_mapped_before a b ≡ true → stands_before (as_mapping a) (as_mapping b) ≡ true
  in_order a b m n e =
      subst (λ (x : Mapping). stands_before x (as_mapping b) ≡ true) (sym (mapping_is rec.filesystems rec.cells a m))
      (subst (λ (y : Mapping). stands_before (record { fs = m.row.serial; block = a.block; cell = m.cell.cell; place = m.cell.place }) y ≡ true) (sym (mapping_is rec.filesystems rec.cells b n))
      (by_index (nat_lt a.fs b.fs) refl))
    where
      by_index : (t : Bool) → nat_lt a.fs b.fs ≡ t → (nat_lt m.row.serial n.row.serial || ((m.row.serial == n.row.serial) && nat_lt a.block b.block)) ≡ true
      by_index true lower =
          let less = pair_at _ rec.filesystems a.fs b.fs m.row n.row rising (lt_of a.fs b.fs lower) m.row_at n.row_at in
          ap (λ (t : Bool). t || ((m.row.serial == n.row.serial) && nat_lt a.block b.block)) less
      by_index false higher =
          let rest : ((a.fs == b.fs) && nat_lt a.block b.block) ≡ true = ap (λ (t : Bool). t || ((a.fs == b.fs) && nat_lt a.block b.block)) (sym higher) ∙ e in
          let index = eq_of a.fs b.fs (and_left (a.fs == b.fs) (nat_lt a.block b.block) rest) in
          let blocks = and_right (a.fs == b.fs) (nat_lt a.block b.block) rest in
          let same : m.row ≡ n.row = one_row m.row n.row (sym m.row_at ∙ ap (slice_get rec.filesystems) index ∙ n.row_at) in
          last_so (nat_lt m.row.serial n.row.serial) (m.row.serial == n.row.serial) (nat_lt a.block b.block) (subst (λ (r : FsRow). (m.row.serial == r.serial) ≡ true) same (same_number m.row.serial)) blocks

  begun_sorted : EachPair (λ (m later : Mapping). stands_before m later ≡ true) (state_of rec).mappings
  begun_sorted = pairs-map (Named rec.filesystems rec.cells) (λ (a b : MapRow). is_mapped_before a b ≡ true) _ as_mapping rec.mappings (λ a b m n e. in_order a b m n e) all_named (pairs _ rec.mappings is.kept.mappings.mappings_rise)

  -- two cells with one place are one
  own_place : (a b : MapRow) → Named rec.filesystems rec.cells a → Named rec.filesystems rec.cells b → HaveOwnPlace (as_mapping a) (as_mapping b)
  own_place a b m n =
      subst (λ (x : Mapping). HaveOwnPlace x (as_mapping b)) (sym (mapping_is rec.filesystems rec.cells a m))
      (subst (λ (y : Mapping). HaveOwnPlace (record { fs = m.row.serial; block = a.block; cell = m.cell.cell; place = m.cell.place }) y) (sym (mapping_is rec.filesystems rec.cells b n)) one)
    where
      one_cell : (r q : CellRow) → Some r ≡ Some q → r.cell ≡ q.cell
      one_cell r q h = let same : r ≡ q = cc in ap (λ (x : CellRow). x.cell) same

      one : m.cell.place ≡ n.cell.place → m.cell.cell ≡ n.cell.cell
      one e =
          let first = slice_get-map place_of rec.cells a.cell ∙ ap (λ (o : Option CellRow). Rattle.std.specs.Prelude.option_map place_of o) m.cell_at in
          let second = slice_get-map place_of rec.cells b.cell ∙ ap (λ (o : Option CellRow). Rattle.std.specs.Prelude.option_map place_of o) n.cell_at ∙ ap (λ (k : ℕ). Some k) (sym e) in
          let index = distinct_at (map place_of rec.cells) a.cell b.cell m.cell.place is.kept.cells.places first second in
          one_cell m.cell n.cell (sym m.cell_at ∙ ap (slice_get rec.cells) index ∙ n.cell_at)

  begun_places : AllByRecursion (λ (m : Mapping). AllByRecursion (HaveOwnPlace m) (state_of rec).mappings) (state_of rec).mappings
  begun_places = All-map _ as_mapping rec.mappings (All-weaker _ _ rec.mappings (λ a m. All-map (HaveOwnPlace (as_mapping a)) as_mapping rec.mappings (All-weaker _ _ rec.mappings (λ b n. own_place a b m n) all_named)) all_named)

  most : (v : Bool) → most_filesystems v ≤ MAX_FILESYSTEMS
  most true = omega arith
  most false = omega arith

  begun : IsSound c (state_of rec)
  begun =
      let few = is.kept.few_rows in
      let fs = le_of (length rec.filesystems) (most_filesystems rec.version2) (and_left _ _ few) in
      let maps : length rec.mappings ≤ MAX_MAPPINGS = le_of (length rec.mappings) MAX_MAPPINGS (and_left _ _ (and_right _ _ few)) in
      let bound = most rec.version2 in
      let from = is.kept.from_one in
      let next = le_of rec.next_fs (most_filesystems rec.version2 * c) (and_right (nat_le rec.next_cell (2 * c)) _ is.within) in
      record {
        filesystems = is.kept.filesystems;
        marks = is.kept.marks;
        few_filesystems = omega (arith, fs, bound);
        few_mappings = subst (λ (n : ℕ). n ≤ MAX_MAPPINGS) (sym (length-map rec.mappings as_mapping)) maps;
        sorted = begun_sorted;
        each = begun_each;
        places = begun_places;
        fs_from = le_of 1 rec.next_fs (and_left _ (nat_le 1 rec.next_cell) from);
        fs_until = within_most rec.version2 next;
        cell_from = le_of 1 rec.next_cell (and_right (nat_le 1 rec.next_fs) _ from);
        cell_until = le_of rec.next_cell (2 * c) (and_left _ _ is.within);
      }
    where
      within_most : (v : Bool) → rec.next_fs ≤ most_filesystems v * c → rec.next_fs ≤ MAX_FILESYSTEMS * c
      within_most true h = h
      within_most false h = omega (arith, h)

-- ---- a delta

one_more : (next : ℕ) (rows : List DeltaRow) → cells_follow next rows ≡ true → AllByRecursion (λ (r : DeltaRow). (next ≤ r.cell) × (r.cell < next + length rows)) rows
one_more next [] h = tt
one_more next (r ∷ rs) h =
    let here = eq_of r.cell next (and_left (r.cell == next) _ h) in
    let rest = one_more (next + 1) rs (and_right (r.cell == next) _ h) in
    ((omega (arith, here), omega (arith, here)), All-weaker _ _ rs (λ q k. (omega (arith, k.0), omega (arith, k.1))) rest)

found_one : (list : List FsRow) (rows : List DeltaRow) → list_any (λ fs. list_all (is_of_fs fs) rows) list ≡ true → AllByRecursion (λ (q : DeltaRow). list_any (λ (fs : FsRow). (q.fs == fs.serial) && nat_lt q.block (fs.size / BLOCK_SECTORS)) list ≡ true) rows
found_one [] rows k = absurd cc
found_one (f ∷ fs) rows k = by (list_all (is_of_fs f) rows) refl k (found_one fs rows)
  where
    by : (b : Bool) → list_all (is_of_fs f) rows ≡ b → (b || list_any (λ fs. list_all (is_of_fs fs) rows) fs) ≡ true
        → (list_any (λ fs. list_all (is_of_fs fs) rows) fs ≡ true → AllByRecursion (λ (q : DeltaRow). list_any (λ (fs : FsRow). (q.fs == fs.serial) && nat_lt q.block (fs.size / BLOCK_SECTORS)) fs ≡ true) rows)
        → AllByRecursion (λ (q : DeltaRow). list_any (λ (fs : FsRow). (q.fs == fs.serial) && nat_lt q.block (fs.size / BLOCK_SECTORS)) (f ∷ fs) ≡ true) rows
    by true e g more = All-weaker _ _ rows (λ q t. ap (λ (b : Bool). b || list_any (λ (fs : FsRow). (q.fs == fs.serial) && nat_lt q.block (fs.size / BLOCK_SECTORS)) fs) t) (all_true (is_of_fs f) rows e)
    by false e g more = All-weaker _ _ rows (λ q t. or_true ((q.fs == f.serial) && nat_lt q.block (f.size / BLOCK_SECTORS)) _ t) (more g)

some_row : (n : ℕ) (b : Bool) → ((suc n == 0) || b) ≡ true → b ≡ true
some_row n b k = grind (arith, common_steps)

of_one : (filesystems : List FsRow) (rows : List DeltaRow) → are_of_one filesystems rows ≡ true → AllByRecursion (λ (r : DeltaRow). list_any (λ (fs : FsRow). (r.fs == fs.serial) && nat_lt r.block (fs.size / BLOCK_SECTORS)) filesystems ≡ true) rows
of_one filesystems [] h = tt
of_one filesystems (r ∷ rs) h = found_one filesystems (r ∷ rs) (some_row (length rs) (list_any (λ fs. list_all (is_of_fs fs) (r ∷ rs)) filesystems) h)

-- the mapping is one of these
abbrev IsIn : List Mapping → Mapping → Type 0
IsIn ms m = (k : ℕ) × (slice_get ms k ≡ Some m)

other_place : (r : DeltaRow) (m : Mapping) → has_other_place r m ≡ true → r.place ≡ m.place → r.cell ≡ m.cell
other_place r m h e = sym (by (m.cell == r.cell) refl h)
  where
    by : (b : Bool) → (m.cell == r.cell) ≡ b → (b || not (m.place == r.place)) ≡ true → m.cell ≡ r.cell
    by true k g = eq_of m.cell r.cell k
    by false k g = absurd (let yes : (m.place == r.place) ≡ true = subst (λ (n : ℕ). (m.place == n) ≡ true) (sym e) (same_number m.place) in not_both (m.place == r.place) yes g)
      where
        not_both : (t : Bool) → t ≡ true → not t ≡ true → ⊥
        not_both true x y = absurd cc
        not_both false x y = absurd cc

module _ (n : ℕ) (d : Delta) (st : FlexState) (sound : IsSound n st) (may : may_come (suc n) d st ≡ true) (are : are_mappings (rows_of d) (after_rows d st).mappings ≡ true) where
  abbrev rows : List DeltaRow
  rows = rows_of d

  abbrev after : List Mapping
  after = put_rows rows st.mappings

  counted : (d.next_cell == st.next_cell + length rows) ≡ true
  counted = and_left _ _ (and_right (d.serial == st.serial) _ may)

  behind : (nat_le d.next_cell (2 * suc n) && (cells_follow st.next_cell rows && (are_of_one st.filesystems rows && blocks_rise rows))) ≡ true
  behind = and_right (d.next_cell == st.next_cell + length rows) _ (and_right (d.serial == st.serial) _ may)

  follow : cells_follow st.next_cell rows ≡ true
  follow = and_left _ _ (and_right (nat_le d.next_cell (2 * suc n)) _ behind)

  ones : are_of_one st.filesystems rows ≡ true
  ones = and_left _ (blocks_rise rows) (and_right (cells_follow st.next_cell rows) _ (and_right (nat_le d.next_cell (2 * suc n)) _ behind))

  next_is : d.next_cell ≡ st.next_cell + length rows
  next_is = eq_of d.next_cell (st.next_cell + length rows) counted

  each_after : AllByRecursion (IsMappingOf st.filesystems d.next_cell) after
  each_after = All-rows (IsMappingOf st.filesystems d.next_cell) rows st.mappings
      (All-weaker _ _ rows (λ r h. record { block = h.0; cell_from = omega (arith, h.1.0, sound.cell_from); cell_until = omega (arith, h.1.1, next_is) })
      (All-both _ _ rows (of_one st.filesystems rows ones) (one_more st.next_cell rows follow)))
      (All-weaker _ _ st.mappings (λ m h. record { block = h.block; cell_from = h.cell_from; cell_until = (let low = h.cell_until in omega (arith, low, next_is)) }) sound.each)

  abbrev Settled : Mapping → Type 0
  Settled x = IsIn st.mappings x ⊎ AllByRecursion (HaveOwnPlace x) after

  each_settled : AllByRecursion Settled after
  each_settled = All-rows Settled rows st.mappings
      (All-weaker _ _ rows (λ r h. inr (All-weaker _ _ after (λ m k. other_place r m k) (all_true (has_other_place r) after h))) (all_true (has_own_place after) rows (and_right (nat_le (length after) MAX_MAPPINGS) _ are)))
      (All-from Settled st.mappings (λ k x e. inl (k, e)))

  places_after : AllByRecursion (λ (x : Mapping). AllByRecursion (HaveOwnPlace x) after) after
  places_after = All-from _ after (λ k x e. by x k e (All-at Settled after k x each_settled e))
    where
      both : (x y : Mapping) (k : ℕ) → slice_get after k ≡ Some x → IsIn st.mappings x → Settled y → HaveOwnPlace x y
      both x y k e i (inr h) = λ same. sym ((All-at (HaveOwnPlace y) after k x h e) (sym same))
      both x y k e i (inl j) = All-at (HaveOwnPlace x) st.mappings j.0 y (All-at (λ (m : Mapping). AllByRecursion (HaveOwnPlace m) st.mappings) st.mappings i.0 x sound.places i.1) j.1

      by : (x : Mapping) (k : ℕ) → slice_get after k ≡ Some x → Settled x → AllByRecursion (HaveOwnPlace x) after
      by x k e (inr h) = h
      by x k e (inl i) = All-weaker _ _ after (λ y h. both x y k e i h) each_settled

  sound_after : IsSound (suc n) (after_rows d st)
  sound_after = record {
    filesystems = sound.filesystems;
    marks = sound.marks;
    few_filesystems = sound.few_filesystems;
    few_mappings = le_of (length after) MAX_MAPPINGS (and_left _ _ are);
    sorted = sorted-rows rows st.mappings sound.sorted;
    each = each_after;
    places = places_after;
    fs_from = sound.fs_from;
    fs_until = (let most = sound.fs_until in omega (arith, most));
    cell_from = (let from = sound.cell_from in omega (arith, from, next_is));
    cell_until = le_of d.next_cell (2 * suc n) (and_left _ _ behind);
  }

applied_sound : (n : ℕ) (d : Delta) (st after : FlexState) → IsSound n st → applied (suc n) d st ≡ Some after → IsSound (suc n) after
applied_sound n d st after sound e = by (may_come (suc n) d st) refl (are_mappings (rows_of d) (after_rows d st).mappings) refl e
  where
    by : (a : Bool) → may_come (suc n) d st ≡ a → (b : Bool) → are_mappings (rows_of d) (after_rows d st).mappings ≡ b → cond (a && b) (Some (after_rows d st)) None ≡ Some after → IsSound (suc n) after
    by true h true k f = let same : after_rows d st ≡ after = cc in subst (IsSound (suc n)) same (sound_after n d st sound h k)
    by true h false k f = absurd cc
    by false h b k f = absurd cc

bytes_sound : (n : ℕ) (o : Option Delta) (st after : FlexState) → IsSound n st → applied_if (suc n) o st ≡ Some after → IsSound (suc n) after
bytes_sound n None st after sound e = absurd cc
bytes_sound n (Some d) st after sound e = applied_sound n d st after sound e

then_sound : (n : ℕ) (bytes : List ℕ) (o : Option FlexState) (after : FlexState) → ((st : FlexState) → o ≡ Some st → IsSound n st) → then_applied (suc n) bytes o ≡ Some after → IsSound (suc n) after
then_sound n bytes None after f e = absurd cc
then_sound n bytes (Some st) after f e = bytes_sound n (delta_of bytes) st after (f st refl) e

replayed_sound : (c : ℕ) (deltas : List (List ℕ)) (begun st : FlexState) → IsSound c begun → replayed c deltas begun ≡ Some st → IsSound (c + length deltas) st
replayed_sound c [] begun st sound e =
    let same : begun ≡ st = cc in
    let none : c ≡ c + 0 = omega arith in
    subst (λ (k : ℕ). IsSound k st) none (subst (IsSound c) same sound)
replayed_sound c (delta ∷ deltas) begun st sound e =
    let next : c + suc (length deltas) ≡ suc (c + length deltas) = omega arith in
    subst (λ (k : ℕ). IsSound k st) (sym next)
    (then_sound (c + length deltas) delta (replayed c deltas begun) st (λ before k. replayed_sound c deltas begun before sound k) (subst (λ (k : ℕ). then_applied k delta (replayed c deltas begun) ≡ Some st) next e))

pub says_sound : SaysSound
says_sound c body deltas st says = replayed_sound c deltas (state_of says.rec) st (begun c says.rec says.spelled.fit) says.replays
