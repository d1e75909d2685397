-- A pool of which all devices are there, by its log.
use Rattle.std.proofs.Common.{◌≡◌, ◌⊎◌, inl, inr, ℕ, zero, suc, ◌+◌, ◌<◌, ◌≤◌, Bool, true, false, ◌&&◌, cond, nat_eq, nat_lt, List, [], ◌∷◌, ◌++◌, length, take, map, Option, Some, None, refl, sym, ◌∙◌, ap, subst, arith}
use Rattle.std.specs.List.{slice_get, list_all, All, AllByRecursion}
use Rattle.std.proofs.lemmas.Bool.{and_parts, and_from, cases_lt}
use Rattle.std.proofs.lemmas.Bool.Decides.{nat_tests}
use Rattle.std.proofs.lemmas.List.{length-append}
use Rattle.std.proofs.lemmas.List.Elements.{All-get_or}
use Rattle.std.proofs.lemmas.Option.{get_or_from_slice_get, slice_get_within}
use Rattle.st_units.specs.declared.rows.Segment.{Segment}
use Rattle.st_poolrec.specs.declared.record.PoolRec.{PoolRec}
use Rattle.st_poolrec.specs.Record as pools
use Rattle.st_flexrec.specs.declared.rows.CellRow.{CellRow}
use Rattle.st_flexlog.specs.declared.state.FlexState.{FlexState}
use Rattle.st_flexlog.specs.declared.state.Mapping.{Mapping}
use Rattle.st_flexat.specs.FlexAt.{FlexAt, IsFlexAt}
use Rattle.st_deltalog.specs.declared.area.FlexArea.{FlexArea}
use Rattle.st_deltalog.specs.declared.area.Tail.{Tail}
use Rattle.st_flexat.specs.Mapped.{AgreesWith, AreMapped}
use Rattle.st_flexat.proofs.Mapping.{said_mapped}
use Rattle.st_seg.specs.Blocks.{blocks_of, blocks_in}
use Rattle.st_seg.proofs.Parts.{length-blocks_from}
use Rattle.st_model.specs.declared.state.PoolState.{PoolState}
use Rattle.st_model.specs.Merged.{merged}
use Rattle.st_rack.specs.Device.{Path, Image, cells}
use Rattle.st_rack.specs.Calls.{Devices, Rises}
use Rattle.st_rack.specs.Story.{Content}
use Rattle.st_slots.specs.Places.{Lies}
use Rattle.st_header.specs.Header.{copy_of, sector_of}
use Rattle.st_header.specs.Header as headers
use Rattle.st_units.specs.declared.rows.DevRow.{DevRow}
use Rattle.st_judge.proofs.Placed.{has_at}
use Rattle.st_image.specs.Looks.{flex_area, has_header, is_serial}
use Rattle.st_image.specs.Bears.{Bears, HasRow, first_of}
use Rattle.st_image.specs.Stands.{StandsFor, Nothing, Gone, Whole, cell_rows, put_cell_of, state_of, lacking_of, missing}
use Rattle.st_image.proofs.Unique.{one_newest, none_missing, same_flex}
use Rattle.st_judge.specs.Verdicts as verdicts
use Rattle.st_judge.specs.Verdicts.{IsHere, IsLackingRow}
use Rattle.st_judge.specs.declared.rows.FoundRow.{FoundRow}
use Rattle.st_assemble.specs.Found.{row_of}
use Rattle.st_assemble.specs.inner.Told.{IsKnownRow, StandsForNothing}
use Rattle.st_assemble.specs.inner.Places.{have_places, is_same}

-- the blocks of one segment more
pub one_segment : (segments : List Segment) (i : ℕ) (s : Segment) → slice_get segments i ≡ Some s → length (blocks_of (take i segments)) + s.blocks ≡ length (blocks_of (take (suc i) segments))
one_segment [] i s at = absurd (cc)
one_segment (r ∷ rs) zero s at =
    let same : r ≡ s = cc in
    let own = length-append (blocks_in r) [] in
    let size = length-blocks_from r.dev r.first r.blocks in
    let n : r.blocks ≡ s.blocks = ap (λ (x : Segment). x.blocks) same in
    omega (arith, own, size, n)
one_segment (r ∷ rs) (suc i) s at =
    let rest = one_segment rs i s at in
    let now = length-append (blocks_in r) (blocks_of (take i rs)) in
    let more = length-append (blocks_in r) (blocks_of (take (suc i) rs)) in
    omega (arith, rest, now, more)

module _ (allocated : ℕ) where
  abbrev IsIn : CellRow → Type 0
  IsIn row = row.place < allocated

  put_in : (m : Mapping) (rows : List CellRow) → m.place < allocated → AllByRecursion IsIn rows → AllByRecursion IsIn (put_cell_of m rows)
  put_in m [] less all = (less, tt)
  put_in m (row ∷ rows) less all = by (nat_lt m.cell row.cell) (nat_eq m.cell row.cell) (put_in m rows less all.1)
    where
      by : (b t : Bool) → AllByRecursion IsIn (put_cell_of m rows) → AllByRecursion IsIn (cond b (record { cell = m.cell; place = m.place } ∷ (row ∷ rows)) (cond t (row ∷ rows) (row ∷ put_cell_of m rows)))
      by true t later = (less, all)
      by false true later = all
      by false false later = (all.0, later)

  less_of : (a b : ℕ) → nat_lt a b ≡ true → a < b
  less_of a b e = grind (arith, nat_tests)

  lt_of : (a b : ℕ) → a < b → nat_lt a b ≡ true
  lt_of a b e = grind (arith, nat_tests)

  -- the cells' places are those of mappings
  pub places_in : (mappings : List Mapping) → have_places allocated mappings ≡ true → AllByRecursion IsIn (cell_rows mappings)
  places_in [] all = tt
  places_in (m ∷ ms) all =
      let both = and_parts (nat_lt m.place allocated) (have_places allocated ms) all in
      put_in m (cell_rows ms) (less_of m.place allocated both.0) (places_in ms both.1)

  -- a row of the cell, whose place is allocated
  record Holds (cell : ℕ) (rows : List CellRow) : Type 0 where
    index : ℕ
    row : CellRow
    of : slice_get rows index ≡ Some row
    same : row.cell ≡ cell

  holds : (m : Mapping) (rows : List CellRow) → Holds m.cell (put_cell_of m rows)
  holds m [] = record { index = 0; row = record { cell = m.cell; place = m.place }; of = refl; same = refl }
  holds m (row ∷ rows) = by (nat_lt m.cell row.cell) (nat_eq m.cell row.cell) refl (holds m rows)
    where
      same_number : (a b : ℕ) → nat_eq a b ≡ true → b ≡ a
      same_number a b e = grind (arith, nat_tests)

      by : (b t : Bool) → nat_eq m.cell row.cell ≡ t → Holds m.cell (put_cell_of m rows) → Holds m.cell (cond b (record { cell = m.cell; place = m.place } ∷ (row ∷ rows)) (cond t (row ∷ rows) (row ∷ put_cell_of m rows)))
      by true t e later = record { index = 0; row = record { cell = m.cell; place = m.place }; of = refl; same = refl }
      by false true e later = record { index = 0; row = row; of = refl; same = same_number m.cell row.cell e }
      by false false e later = record { index = suc later.index; row = later.row; of = later.of; same = later.same }

  keeps : (m : Mapping) (rows : List CellRow) (k : ℕ) (row : CellRow) → slice_get rows k ≡ Some row → Holds row.cell (put_cell_of m rows)
  keeps m [] k row at = absurd (cc)
  keeps m (r ∷ rs) zero row at =
      let same : r ≡ row = cc in
      by (nat_lt m.cell r.cell) (nat_eq m.cell r.cell) (ap (λ (x : CellRow). x.cell) same)
    where
      by : (b t : Bool) → r.cell ≡ row.cell → Holds row.cell (cond b (record { cell = m.cell; place = m.place } ∷ (r ∷ rs)) (cond t (r ∷ rs) (r ∷ put_cell_of m rs)))
      by true t e = record { index = 1; row = r; of = refl; same = e }
      by false true e = record { index = 0; row = r; of = refl; same = e }
      by false false e = record { index = 0; row = r; of = refl; same = e }
  keeps m (r ∷ rs) (suc k) row at = by (nat_lt m.cell r.cell) (nat_eq m.cell r.cell) (keeps m rs k row at)
    where
      by : (b t : Bool) → Holds row.cell (put_cell_of m rs) → Holds row.cell (cond b (record { cell = m.cell; place = m.place } ∷ (r ∷ rs)) (cond t (r ∷ rs) (r ∷ put_cell_of m rs)))
      by true t later = record { index = suc (suc k); row = row; of = at; same = refl }
      by false true later = record { index = suc k; row = row; of = at; same = refl }
      by false false later = record { index = suc later.index; row = later.row; of = later.of; same = later.same }

  keeps_all : (m : Mapping) (cell : ℕ) (rows : List CellRow) → Holds cell rows → Holds cell (put_cell_of m rows)
  keeps_all m cell rows one = subst (λ (n : ℕ). Holds n (put_cell_of m rows)) one.same (keeps m rows one.index one.row one.of)

  held_cell : (mappings : List Mapping) (j : ℕ) (m : Mapping) → slice_get mappings j ≡ Some m → Holds m.cell (cell_rows mappings)
  held_cell [] j m at = absurd (cc)
  held_cell (x ∷ xs) zero m at = let same : x ≡ m = cc in subst (λ (y : Mapping). Holds y.cell (cell_rows (x ∷ xs))) same (holds x (cell_rows xs))
  held_cell (x ∷ xs) (suc j) m at = keeps_all x m.cell (cell_rows xs) (held_cell xs j m at)

  -- a row is that of a mapping
  record OfMapping (mappings : List Mapping) (row : CellRow) : Type 0 where
    index : ℕ
    mapping : Mapping
    of : slice_get mappings index ≡ Some mapping
    cell : mapping.cell ≡ row.cell
    place : mapping.place ≡ row.place

  in_more : (x : Mapping) (xs : List Mapping) (row : CellRow) → OfMapping xs row → OfMapping (x ∷ xs) row
  in_more x xs row one = record { index = suc one.index; mapping = one.mapping; of = one.of; cell = one.cell; place = one.place }

  each_of : (xs ys : List Mapping) (rows : List CellRow) → ((row : CellRow) → OfMapping xs row → OfMapping ys row) → AllByRecursion (OfMapping xs) rows → AllByRecursion (OfMapping ys) rows
  each_of xs ys [] goes all = tt
  each_of xs ys (row ∷ rows) goes all = (goes row all.0, each_of xs ys rows goes all.1)

  put_of : (all : List Mapping) (m : Mapping) (rows : List CellRow) → OfMapping all (record { cell = m.cell; place = m.place }) → AllByRecursion (OfMapping all) rows → AllByRecursion (OfMapping all) (put_cell_of m rows)
  put_of all m [] own each = (own, tt)
  put_of all m (row ∷ rows) own each = by (nat_lt m.cell row.cell) (nat_eq m.cell row.cell) (put_of all m rows own each.1)
    where
      by : (b t : Bool) → AllByRecursion (OfMapping all) (put_cell_of m rows) → AllByRecursion (OfMapping all) (cond b (record { cell = m.cell; place = m.place } ∷ (row ∷ rows)) (cond t (row ∷ rows) (row ∷ put_cell_of m rows)))
      by true t later = (own, each)
      by false true later = each
      by false false later = (each.0, later)

  rows_of : (mappings : List Mapping) → AllByRecursion (OfMapping mappings) (cell_rows mappings)
  rows_of [] = tt
  rows_of (x ∷ xs) = put_of (x ∷ xs) x (cell_rows xs) (record { index = 0; mapping = x; of = refl; cell = refl; place = refl }) (each_of xs (x ∷ xs) (cell_rows xs) (λ row one. in_more x xs row one) (rows_of xs))

  at_row : (P : CellRow → Type 0) (rows : List CellRow) (k : ℕ) (row : CellRow) → AllByRecursion P rows → slice_get rows k ≡ Some row → P row
  at_row P [] k row all at = absurd (cc)
  at_row P (r ∷ rs) zero row all at = let same : r ≡ row = cc in subst P same all.0
  at_row P (r ∷ rs) (suc k) row all at = at_row P rs k row all.1 at

  -- where two mappings of one cell have one place, the mappings' places are the cells'
  pub mappings_in : (mappings : List Mapping) → ((i j : ℕ) (a b : Mapping) → slice_get mappings i ≡ Some a → slice_get mappings j ≡ Some b → a.cell ≡ b.cell → a.place ≡ b.place) → AllByRecursion IsIn (cell_rows mappings) → have_places allocated mappings ≡ true
  mappings_in mappings paired all = all_true mappings (λ k m at. (
      let held = held_cell mappings k m at in
      let from = at_row (OfMapping mappings) (cell_rows mappings) held.index held.row (rows_of mappings) held.of in
      let less = at_row IsIn (cell_rows mappings) held.index held.row all held.of in
      let same : m.place ≡ from.mapping.place = paired k from.index m from.mapping at from.of (sym held.same ∙ sym from.cell) in
      lt_of m.place allocated (omega (arith, less, same, from.place))))
    where
      all_true : (ms : List Mapping) → ((k : ℕ) (m : Mapping) → slice_get ms k ≡ Some m → nat_lt m.place allocated ≡ true) → have_places allocated ms ≡ true
      all_true [] each = refl
      all_true (x ∷ xs) each = and_from (nat_lt x.place allocated) (have_places allocated xs) (each 0 x refl) (all_true xs (λ k m at. each (suc k) m at))

all_slice : {X : Type 0} (P : X → Type 0) (xs : List X) (k : ℕ) (x : X) → All P xs → slice_get xs k ≡ Some x → P x
all_slice P xs k x all at = subst P (get_or_from_slice_get xs k x x at) (All-get_or P xs k x (slice_get_within xs k x at) all)

-- mappings of a log that have one cell have one place
one_place : (next : ℕ) (mappings : List Mapping) → AreMapped next mappings → (i j : ℕ) (a b : Mapping) → slice_get mappings i ≡ Some a → slice_get mappings j ≡ Some b → a.cell ≡ b.cell → a.place ≡ b.place
one_place next mappings are i j a b at_a at_b same =
    let agree : nat_eq a.cell b.cell ≡ nat_eq a.place b.place = all_slice (AgreesWith a) mappings j b (all_slice (λ (x : Mapping). All (AgreesWith x) mappings) mappings i a are.paired at_a) at_b in
    same_number a.place b.place (sym agree ∙ numbers_eq a.cell b.cell same)
  where
    same_number : (a b : ℕ) → nat_eq a b ≡ true → a ≡ b
    same_number a b e = grind (arith, nat_tests)

    numbers_eq : (a b : ℕ) → a ≡ b → nat_eq a b ≡ true
    numbers_eq a b e = grind (arith, nat_tests)

not_both : (b : Bool) → b ≡ true → b ≡ false → ⊥
not_both b t f = cc

no_pair : (x : ℕ × List ℕ) → None ≡ Some x → ⊥
no_pair x e = cc

no_path : (x : List ℕ) → None ≡ Some x → ⊥
no_path x e = cc

module _ (p : ℕ) (devs : Devices) (c : Image) where
  pub lacking_known : (row : FoundRow) → IsLackingRow p devs c row → IsKnownRow p devs c row
  lacking_known row one = record { pool = lacking_of one.rec one.path; serial = one.lacking.bears.serial; stands = inr (one.g, one.rec, one.path, one.lacking, refl); is = one.told }

  module _ (g : ℕ) (rec : PoolRec) (here : IsHere p devs c g rec) where
    pub whole_known : (st : FlexState) → FlexAt flex_area p g (c (first_of rec)) st → st.version2 ≡ rec.version2 → have_places (length (blocks_of rec.segments)) st.mappings ≡ true → IsKnownRow p devs c (verdicts.row_of rec None)
    whole_known st at version places = record {
      pool = merged (state_of g rec st c);
      serial = here.bears.serial;
      stands = inl (g, rec, st, record { bears = record { record_of = here.bears; rows = here.rows; flexed = at; version = version }; alive = here.alive; places = places_in (length (blocks_of rec.segments)) st.mappings places }, refl);
      is = refl;
    }

    none_whole : ((st : FlexState) → Whole p devs c g rec st → ⊥) → StandsForNothing p devs c
    none_whole none None (Nothing nothing) = no_pair (g, pools.record_text rec) (sym nothing ∙ here.bears.newest)
    none_whole none None (Gone h other bears gone) = not_both other.gone gone (ap (λ (r : PoolRec). r.gone) (one_newest p devs c h g other rec bears here.bears).1 ∙ here.alive)
    none_whole none (Some pool) (inl one) =
        let same = one_newest p devs c one.0 g one.1 rec one.3.bears.record_of here.bears in
        none one.2 (subst (λ (r : PoolRec). Whole p devs c g r one.2) same.1 (subst (λ (h : ℕ). Whole p devs c h one.1 one.2) same.0 one.3))
    none_whole none (Some pool) (inr one) =
        let same = one_newest p devs c one.0 g one.1 rec one.3.bears here.bears in
        no_path one.2 (sym (none_missing p devs c rec.devs here.rows) ∙ ap (λ (r : PoolRec). missing r.devs devs) (sym same.1) ∙ one.3.lacks)

    pub no_log : ((st : FlexState) → FlexAt flex_area p g (c (first_of rec)) st → ⊥) → StandsForNothing p devs c
    no_log none = none_whole (λ st whole. none st whole.bears.flexed)

    pub other_version : (st : FlexState) → FlexAt flex_area p g (c (first_of rec)) st → (st.version2 ≡ rec.version2 → ⊥) → StandsForNothing p devs c
    other_version st at other = none_whole (λ old whole. other (ap (λ (x : FlexState). x.version2) (same_flex g g st old (c (first_of rec)) p refl at whole.bears.flexed) ∙ whole.bears.version))

    pub other_places : (st : FlexState) → FlexAt flex_area p g (c (first_of rec)) st → have_places (length (blocks_of rec.segments)) st.mappings ≡ false → StandsForNothing p devs c
    other_places st at out = none_whole (λ old whole. (
        let same = same_flex g g st old (c (first_of rec)) p refl at whole.bears.flexed in
        not_both (have_places (length (blocks_of rec.segments)) st.mappings) (mappings_in (length (blocks_of rec.segments)) st.mappings (one_place st.next_cell st.mappings (said_mapped flex_area p g (c (first_of rec)) st at))
        (subst (λ (x : FlexState). AllByRecursion (λ (row : CellRow). row.place < length (blocks_of rec.segments)) (cell_rows x.mappings)) (sym same) whole.places)) out))

-- a device with a header is large enough for a log
large_of_header : (p n : ℕ) (f : Content) → has_header p n f ≡ true → 8192 ≤ n
large_of_header p n f has = elim (cases_lt n 8192) [
  | inl less ↦ absurd (no_header (ap (λ (b : Bool). is_serial p (cond b None (copies n f))) (small less)) has)
  | inr large ↦ large
]
  where
    copies : ℕ → Content → Option ℕ
    copies n f = headers.first_of (copy_of n (sector_of 1 (cells f 0 8192))) (copy_of n (sector_of 9 (cells f 0 8192)))

    small : n < 8192 → nat_lt n 8192 ≡ true
    small lt = grind (arith, nat_tests)

    no_header : has_header p n f ≡ false → has_header p n f ≡ true → ⊥
    no_header a b = cc

-- the log's area lies on the first device of a pool of which all are there
pub area_lies : (p : ℕ) (devs : Devices) (c : Image) (row : DevRow) → Rises devs → HasRow p devs c row → Lies devs row.path flex_area.area
area_lies p devs c row rises has =
    let large = large_of_header p row.sectors (c row.path) has.header in
    record { sectors = row.sectors; has = has_at devs has.index (row.path, row.sectors) rises has.of; some = omega arith; on_it = omega (arith, large); small = omega arith }

-- what a log says, by the area, the serial and the device that were meant
pub log_said : (c : Image) (fa : FlexArea) (q p g : ℕ) (dev path : Path) (found : Option (FlexState × Tail)) → fa ≡ flex_area → q ≡ p → dev ≡ path → IsFlexAt fa q g (c dev) found → IsFlexAt flex_area p g (c path) found
log_said c fa q p g dev path found a b d is = subst (λ (x : Path). IsFlexAt flex_area p g (c x) found) d (subst (λ (n : ℕ). IsFlexAt flex_area n g (c dev) found) b (subst (λ (x : FlexArea). IsFlexAt x q g (c dev) found) a is))

pub same_is : (a b : Bool) → is_same a b ≡ true → a ≡ b
same_is true true e = refl
same_is true false e = absurd (cc)
same_is false true e = absurd (cc)
same_is false false e = refl

pub differ_is : (a b : Bool) → is_same a b ≡ false → a ≡ b → ⊥
differ_is true true e same = cc
differ_is true false e same = cc
differ_is false true e same = cc
differ_is false false e same = cc
