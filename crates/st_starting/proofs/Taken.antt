-- What is found, by what was read.
use Rattle.std.proofs.Common.{◌≡◌, inl, ℕ, zero, suc, ◌+◌, ◌%◌, ◌^◌, ◌<◌, ◌≤◌, Bool, true, false, cond, nat_eq, List, [], ◌∷◌, map, length, Option, Some, None, Result, Ok, Err, refl, sym, ◌∙◌, ap, subst, arith}
use Rattle.std.specs.List.{slice_get, list_all, AllByRecursion}
use Rattle.st_units.specs.declared.rows.DevRow.{DevRow}
use Rattle.std.proofs.lemmas.Bool.{and_parts, and_from}
use Rattle.std.proofs.lemmas.Bool.Decides.{nat_tests}
use Rattle.st_fields.specs.Slot.{Found, padded}
use Rattle.st_recrows.specs.Rows.{Spells}
use Rattle.st_poolrec.specs.declared.record.PoolRec.{PoolRec}
use Rattle.st_poolrec.specs.Record as pools
use Rattle.st_flexlog.specs.declared.state.FlexState.{FlexState}
use Rattle.st_flexat.specs.FlexAt.{FlexAt, FlexFound, IsFlexAt}
use Rattle.st_fields.proofs.Slots.{sealed_of-is}
use Rattle.st_deltalog.specs.declared.area.FlexArea.{FlexArea}
use Rattle.st_slots.specs.Places.{Lies}
use Rattle.st_slots.specs.Reading.{bytes_at, read_slot}
use Rattle.st_slots.specs.declared.spot.SlotFault.{SlotFault}
use Rattle.st_slots.specs.declared.spot.SlotFault.TheVariants.{Fault, OutOfMemory}
use Rattle.st_slots.proofs.Places.{slot_is}
use Rattle.st_commit.specs.Standing.{keep}
use Rattle.st_commit.proofs.Steps.{keep_is}
use Rattle.st_books.proofs.Lying.{log_lies}
use Rattle.st_starting.proofs.Restrict.{newest_candidate}
use Rattle.st_deltalog.specs.declared.area.Tail.{Tail}
use Rattle.st_deltalog.specs.Log.{serial_in}
use Rattle.st_model.specs.declared.state.PoolState.{PoolState}
use Rattle.st_rack.specs.Device.{Path, Image}
use Rattle.st_rack.specs.Calls.{Devices, Has, Rises}
use Rattle.st_commit.specs.Ready.{IsOf}
use Rattle.st_image.specs.Looks.{flex_area, pool_area, has_header, slot_on}
use Rattle.st_image.specs.Bears.{Bears, HasRow, first_of, newest_over}
use Rattle.st_image.specs.Stands.{Gone, Nothing, StandsFor, missing}
use Rattle.st_image.specs.Kept.{as_pair}
use Rattle.st_image.proofs.Committing.{pair_at, path_at, row_at}
use Rattle.st_image.proofs.Unique.{none_missing, one_newest, same_flex, same_pool_text}
use Rattle.st_looks.specs.declared.look.DevLook.{DevLook}
use Rattle.st_looks.specs.Looked.{looked}
use Rattle.st_judge.specs.declared.rows.FoundRow.{FoundRow}
use Rattle.st_judge.specs.declared.rows.GoneRow.{GoneRow}
use Rattle.st_judge.specs.Verdicts.{IsGone, IsHere, IsLackingRow}
use Rattle.st_judge.proofs.Lists.{all_at, all_from, at_mapped, mapped_at}
use Rattle.st_judge.proofs.Placed.{has_at}
use Rattle.st_books.specs.declared.books.Books.{Books}
use Rattle.st_books.specs.Spelled.{IsBare}
use Rattle.st_books.specs.Ready.{rows_of}
use Rattle.st_books.proofs.Texts.{record_short}
use Rattle.st_starting.specs.declared.finding.Finding.{Finding}
use Rattle.st_starting.specs.declared.finding.Newest.{Newest}
use Rattle.st_starting.specs.declared.outcome.Start.TheVariants as starts
use Rattle.st_starting.specs.Found.{AreBorne, HasEnded, IsNeither, sized}
use Rattle.st_starting.specs.inner.Finding.{IsFinding, IsFirst, is_of, is_own}
use Rattle.st_starting.proofs.Devices.{some_same, none_some, sized_in}
use Rattle.st_starting.proofs.Moments.{bare_places}

not_both : (b : Bool) → b ≡ true → b ≡ false → ⊥
not_both b t f = cc

nothing_ready : (b : Books) → starts.Nothing ≡ starts.Ready b → ⊥
nothing_ready b e = cc

broken_ready : (b : Books) → starts.Broken ≡ starts.Ready b → ⊥
broken_ready b e = cc

gone_ready : (g : ℕ) (b : Books) → starts.Gone g ≡ starts.Ready b → ⊥
gone_ready g b e = cc

ready_same : (a b : Books) → starts.Ready a ≡ starts.Ready b → a ≡ b
ready_same a b e = cc

pub row_all : (P : DevRow → Type 0) (rows : List DevRow) (k : ℕ) (r : DevRow) → AllByRecursion P rows → slice_get rows k ≡ Some r → P r
row_all P [] k r all at = absurd (none_some r at)
row_all P (x ∷ xs) zero r all at = subst P (some_same x r at) all.0
row_all P (x ∷ xs) (suc k) r all at = row_all P xs k r all.1 at

pub text_short : (rec : PoolRec) (text : List ℕ) → Spells pools.IsPoolRec pools.record_text text rec → length text < 2 ^ 40
text_short rec text spells = let short = record_short rec spells.fit in let same = ap length spells.spelled in omega (arith, short, same)

pub ok_fault : (f : Finding) → Ok f ≡ Err Fault → ⊥
ok_fault f e = cc

pub memory_fault : ◌≡◌ {A = Result Finding SlotFault} (Err OutOfMemory) (Err Fault) → ⊥
memory_fault e = cc

-- a fault of a call is the fault that is answered
pub moved_fault : (a : SlotFault) → ◌≡◌ {A = Result Finding SlotFault} (Err a) (Err Fault) → ◌≡◌ {A = Result (Option (FlexState × Tail)) SlotFault} (Err a) (Err Fault)
moved_fault a e = let same : a ≡ Fault = cc in ap (λ (f : SlotFault). Err f) same

-- what a log says, by the area, the serial and the device that were meant
pub log_said : (c : Image) (fa : FlexArea) (q p g : ℕ) (dev path : Path) (found : Option (FlexState × Tail)) → fa ≡ flex_area → q ≡ p → dev ≡ path → IsFlexAt fa q g (c dev) found → IsFlexAt flex_area p g (c path) found
log_said c fa q p g dev path found a b d is = subst (λ (x : Path). IsFlexAt flex_area p g (c x) found) d (subst (λ (n : ℕ). IsFlexAt flex_area n g (c dev) found) b (subst (λ (x : FlexArea). IsFlexAt x q g (c dev) found) a is))

module _ (p : ℕ) (rack : Devices) (c : Image) where
  -- the rack has the devices of the rows
  have_rows : Rises rack → (rows : List DevRow) → AllByRecursion (HasRow p rack c) rows → (k : ℕ) (d : Path × ℕ) → slice_get (map as_pair rows) k ≡ Some d → Has rack d.0 d.1
  have_rows rises rows all k d at =
      let row = row_at rows k d at in
      let has : HasRow p rack c row.0 = row_all (HasRow p rack c) rows k row.0 all row.1 in
      subst (λ (q : Path × ℕ). Has rack q.0 q.1) row.2 (has_at rack has.index (row.0.path, row.0.sectors) rises has.of)

  pub first_lies : Rises rack → (g : ℕ) (rec : PoolRec) → IsHere p rack c g rec → (row : DevRow) → slice_get rec.devs 0 ≡ Some row → Lies rack row.path flex_area.area
  first_lies rises g rec here row at = log_lies rec here.bears.is rack (have_rows rises rec.devs here.rows) row.path (path_at (rows_of rec) 0 (as_pair row) (pair_at rec.devs 0 row at))

  -- a record that was found has a generation that a commit can have
  pub bears_until : (g : ℕ) (rec : PoolRec) → Bears p rack g rec c → (1 ≤ g) × (g ≤ 2 ^ 48)
  bears_until g rec bears =
      let one = newest_candidate p c rack (g, pools.record_text rec) bears.newest in
      let there = kept_of (has_header p one.dev.1 (c one.dev.0)) p (read_slot pool_area one.place (c one.dev.0)) (g, pools.record_text rec) one.found in
      let sealed = sealed_of-is pool_area.magic (bytes_at pool_area one.place (c one.dev.0)) (g, pools.record_text rec) (slot_is pool_area one.place (c one.dev.0) (g, pools.record_text rec) there).0 in
      (sealed.from, sealed.until)
    where
      kept_of : (b : Bool) (q : ℕ) (o : Found) (x : ℕ × List ℕ) → cond b (keep q o) None ≡ Some x → o ≡ Some x
      kept_of true q o x is = keep_is q o x is
      kept_of false q o x is = absurd (none_some x is)

  pub here_until : (g : ℕ) (rec : PoolRec) → IsHere p rack c g rec → g ≤ 2 ^ 48
  here_until g rec here = (bears_until g rec here.bears).1

module _ (p : ℕ) (rack : Devices) (list : List Path) (c : Image) where
  abbrev pub broken : Finding
  broken = record { start = starts.Broken; newest = None }

  pub found_broken : IsNeither p rack list c → IsFinding p rack list c broken
  found_broken neither = record { start = neither; books = λ b e. absurd (broken_ready b e); writes = tt; newest = tt }

  pub found_nothing : newest_over p rack c ≡ None → IsFinding p rack list c (record { start = starts.Nothing; newest = None })
  found_nothing none = record { start = none; books = λ b e. absurd (nothing_ready b e); writes = tt; newest = tt }

  has_newest : (g : ℕ) (rec : PoolRec) → Bears p rack g rec c → newest_over p rack c ≡ None → ⊥
  has_newest g rec bears none = none_some (g, pools.record_text rec) (sym none ∙ bears.newest)

  -- of two records one says that the pool is gone
  gone_or_alive : (g h : ℕ) (a b : PoolRec) → Bears p rack g a c → Bears p rack h b c → a.gone ≡ true → b.gone ≡ false → ⊥
  gone_or_alive g h a b one two gone alive =
      let same = (one_newest p rack c g h a b one two).1 in
      not_both b.gone (ap (λ (r : PoolRec). r.gone) (sym same) ∙ gone) alive

  -- a pool that lacks a device
  pub found_lacking : (row : FoundRow) → IsLackingRow p rack c row → IsFinding p rack list c broken
  found_lacking row is = found_broken (record {
    some = has_newest is.g is.rec is.lacking.bears;
    not_borne = λ g rec st borne. (
        let same = (one_newest p rack c g is.g rec is.rec borne.here.bears is.lacking.bears).1 in
        none_some _ (sym (none_missing p rack c rec.devs borne.here.rows) ∙ ap (λ (r : PoolRec). missing r.devs rack) same ∙ is.lacking.lacks));
    not_ended = λ g rec ended. gone_or_alive g is.g rec is.rec ended.bears is.lacking.bears ended.gone is.lacking.alive;
  })

  -- devices that stand for nothing
  pub found_breaks : ((found : Option PoolState) → StandsFor p rack c found → ⊥) → IsFinding p rack list c broken
  found_breaks breaks = found_broken (record {
    some = λ none. breaks None (Nothing none);
    not_borne = λ g rec st borne. breaks (Some _) (inl (
      g,
      rec,
      st,
      record {
        bears = record { record_of = borne.here.bears; rows = borne.here.rows; flexed = borne.flexed; version = borne.version };
        alive = borne.here.alive;
        places = bare_places rec st borne.bare.mappings;
      },
      refl,
    ));
    not_ended = λ g rec ended. breaks None (Gone g rec ended.bears ended.gone);
  })

  -- the record that says that the pool is gone, as it was read
  module _ (row : GoneRow) (is : IsGone p rack c row) (rec : PoolRec) (spells : Spells pools.IsPoolRec pools.record_text row.rec rec) where
    same_rec : is.rec ≡ rec
    same_rec = same_pool_text is.rec rec is.bears.is spells.fit (sym (ap (λ (r : GoneRow). r.rec) is.told) ∙ spells.spelled)

    bears_rec : Bears p rack row.generation rec c
    bears_rec = subst (λ (r : PoolRec). Bears p rack row.generation r c) same_rec is.bears

    gone_rec : rec.gone ≡ true
    gone_rec = ap (λ (r : PoolRec). r.gone) (sym same_rec) ∙ is.gone

    not_as : ((g : ℕ) (other : PoolRec) → HasEnded p rack list c g other → (g ≡ row.generation) × (other ≡ rec) → ⊥) → IsFinding p rack list c broken
    not_as other_one = found_broken (record {
      some = has_newest row.generation rec bears_rec;
      not_borne = λ g other st borne. gone_or_alive row.generation g rec other bears_rec borne.here.bears gone_rec borne.here.alive;
      not_ended = λ g other ended. other_one g other ended (one_newest p rack c g row.generation other rec ended.bears bears_rec);
    })

    pub gone_elsewhere : ((map as_pair rec.devs ≡ sized rack list) → ⊥) → IsFinding p rack list c broken
    gone_elsewhere away = not_as (λ g other ended same. away (ap (λ (r : PoolRec). rows_of r) (sym same.1) ∙ ended.on))

    -- the slot beside that of a generation
    other_slot : (d : Path × ℕ) (g : ℕ) → cond (nat_eq (g % 2) 0) (looked c d).odd (looked c d).even ≡ slot_on d.1 ((g + 1) % 2) (c d.0)
    other_slot d g = by (nat_eq (g % 2) 0) refl
      where
        by : (t : Bool) → nat_eq (g % 2) 0 ≡ t → cond t (slot_on d.1 1 (c d.0)) (slot_on d.1 0 (c d.0)) ≡ slot_on d.1 ((g + 1) % 2) (c d.0)
        by true e =
            let zero_is : g % 2 ≡ 0 = grind (arith, nat_tests) in
            let one : 1 ≡ (g + 1) % 2 = omega (arith, zero_is) in
            ap (λ (n : ℕ). slot_on d.1 n (c d.0)) one
        by false e =
            let not_zero : (g % 2 ≡ 0) → ⊥ = (λ z. grind (arith, nat_tests)) in
            let one_is : g % 2 ≡ 1 = omega (arith, not_zero) in
            let two : 0 ≡ (g + 1) % 2 = omega (arith, one_is) in
            ap (λ (n : ℕ). slot_on d.1 n (c d.0)) two

    own_serial : (o : Found) (x : ℕ × List ℕ) → is_own p o ≡ true → o ≡ Some x → serial_in x.1 ≡ p
    own_serial None x own at = absurd (none_some x at)
    own_serial (Some y) x own at =
        let same : serial_in y.1 ≡ p = grind (arith, nat_tests) in
        ap (λ (z : ℕ × List ℕ). serial_in z.1) (sym (some_same y x at)) ∙ same

    own_from : (o : Found) → ((x : ℕ × List ℕ) → o ≡ Some x → serial_in x.1 ≡ p) → is_own p o ≡ true
    own_from None each = refl
    own_from (Some x) each = let same = each x refl in grind (arith, nat_tests)

    pub gone_mixed : (looks : List DevLook) → looks ≡ map (looked c) rack → (list_all (is_of p row.generation) looks ≡ true → ⊥) → IsFinding p rack list c broken
    gone_mixed looks are mixed = not_as (λ g other ended same. mixed (ap (λ (ls : List DevLook). list_all (is_of p row.generation) ls) are
        ∙ all_from (is_of p row.generation) (map (looked c) rack) (λ k look at. (
        let dev = mapped_at (looked c) rack k look at in
        let own : is_own p (slot_on dev.0.1 ((row.generation + 1) % 2) (c dev.0.0)) ≡ true = own_from _ (subst (λ (n : ℕ). (x : ℕ × List ℕ) → slot_on dev.0.1 ((n + 1) % 2) (c dev.0.0) ≡ Some x → serial_in x.1 ≡ p) same.0 (ended.own k dev.0 dev.1)) in
        subst (λ (l : DevLook). is_of p row.generation l ≡ true) dev.2 (and_from (has_header p dev.0.1 (c dev.0.0)) _ (ended.headed k dev.0 dev.1) (ap (is_own p) (other_slot dev.0 row.generation) ∙ own))))))

    pub gone_found : (looks : List DevLook) → looks ≡ map (looked c) rack → Rises rack → ((d : Path) → IsOf list d → (n : ℕ) × Has rack d n) → map as_pair rec.devs ≡ sized rack list → list_all (is_of p row.generation) looks ≡ true
        → (n : Newest) → n.generation ≡ row.generation → n.text ≡ row.rec → length n.work.items ≡ padded (64 + length row.rec) → IsFinding p rack list c (record { start = starts.Gone row.generation; newest = Some n })
    gone_found looks are rises there on all n generation text work = record {
      start = (rec, record { bears = bears_rec; gone = gone_rec; on = on; headed = λ k d at. (each k d at).0; own = λ k d at x found. own_serial (slot_on d.1 ((row.generation + 1) % 2) (c d.0)) x (sym (ap (is_own p) (other_slot d row.generation)) ∙ (each k d at).1) found });
      books = λ b e. absurd (gone_ready row.generation b e);
      writes = generation;
      newest = record {
        rec = rec;
        on = record {
          bears = subst (λ (g : ℕ). Bears p rack g rec c) (sym generation) bears_rec;
          on = on;
          headed = λ k d at. (let own = sized_in rack list there k d at in (each own.0 d own.1).0);
        };
        text = text ∙ spells.spelled;
        work = work ∙ ap (λ (l : List ℕ). padded (64 + length l)) (sym text);
      };
    }
      where
        each : (k : ℕ) (d : Path × ℕ) → slice_get rack k ≡ Some d → (has_header p d.1 (c d.0) ≡ true) × (is_own p (cond (nat_eq (row.generation % 2) 0) (looked c d).odd (looked c d).even) ≡ true)
        each k d at = and_parts (has_header p d.1 (c d.0)) _ (all_at (is_of p row.generation) (map (looked c) rack) k (looked c d) (ap (λ (ls : List DevLook). list_all (is_of p row.generation) ls) (sym are) ∙ all) (at_mapped (looked c) rack k d at))

  -- the record of a known pool
  module _ (g : ℕ) (rec : PoolRec) (here : IsHere p rack c g rec) where
    not_here : ((st : FlexState) → AreBorne p rack list c g rec st → ⊥) → IsFinding p rack list c broken
    not_here other_one = found_broken (record {
      some = has_newest g rec here.bears;
      not_borne = λ h other st borne. (
          let same = one_newest p rack c h g other rec borne.here.bears here.bears in
          other_one st (subst (λ (x : ℕ × PoolRec). AreBorne p rack list c x.0 x.1 st) (λ i. (same.0 i, same.1 i)) borne));
      not_ended = λ h other ended. gone_or_alive h g other rec ended.bears here.bears ended.gone here.alive;
    })

    pub here_elsewhere : ((map as_pair rec.devs ≡ sized rack list) → ⊥) → IsFinding p rack list c broken
    here_elsewhere away = not_here (λ st borne. away borne.on)

    pub here_silent : ((st : FlexState) → FlexAt flex_area p g (c (first_of rec)) st → ⊥) → IsFinding p rack list c broken
    here_silent none = not_here (λ st borne. none st borne.flexed)

    pub here_other : (st : FlexState) → FlexAt flex_area p g (c (first_of rec)) st → (st.version2 ≡ rec.version2 → IsBare p g st → ⊥) → IsFinding p rack list c broken
    here_other st at differ = not_here (λ other borne. (
        let same : other ≡ st = same_flex g g other st (c (first_of rec)) p refl borne.flexed at in
        differ (ap (λ (s : FlexState). s.version2) (sym same) ∙ borne.version) (subst (λ (s : FlexState). IsBare p g s) same borne.bare)))

    pub here_found : Rises rack → map as_pair rec.devs ≡ sized rack list → (b : Books) → b.rec ≡ rec → b.generation ≡ g → b.has_committed ≡ false → FlexFound flex_area p g (c (first_of rec)) (b.flex, b.tail) → b.flex.version2 ≡ rec.version2 → IsBare p g b.flex
        → (text : List ℕ) → text ≡ pools.record_text rec → (n : Newest) → n.generation ≡ g → n.text ≡ text → length n.work.items ≡ padded (64 + length text) → IsFinding p rack list c (record { start = starts.Ready b; newest = Some n })
    here_found rises on b is_rec is_g committed flexed version bare text is_text n generation same_text work = record {
      start = subst (λ (x : ℕ × PoolRec). AreBorne p rack list c x.0 x.1 b.flex) (λ i. (sym is_g i, sym is_rec i)) (record { here = here; on = on; flexed = flexed.at; version = version; bare = bare });
      books = λ other e. subst (λ (x : Books). IsFirst p c x) (ready_same b other e)
          (record { tail = subst (λ (x : ℕ × PoolRec). FlexFound flex_area p x.0 (c (first_of x.1)) (b.flex, b.tail)) (λ i. (sym is_g i, sym is_rec i)) flexed; committed = committed });
      writes = generation ∙ sym is_g;
      newest = record {
        rec = rec;
        on = record { bears = subst (λ (m : ℕ). Bears p rack m rec c) (sym generation) here.bears; on = on; headed = headed };
        text = same_text ∙ is_text;
        work = work ∙ ap (λ (l : List ℕ). padded (64 + length l)) (sym same_text);
      };
    }
      where
        headed : (k : ℕ) (d : Path × ℕ) → slice_get (sized rack list) k ≡ Some d → has_header p d.1 (c d.0) ≡ true
        headed k d at =
            let row = row_at rec.devs k d (subst (λ (ds : Devices). slice_get ds k ≡ Some d) (sym on) at) in
            let has : HasRow p rack c row.0 = row_all (HasRow p rack c) rec.devs k row.0 here.rows row.1 in
            subst (λ (q : Path × ℕ). has_header p q.1 (c q.0) ≡ true) row.2 has.header
