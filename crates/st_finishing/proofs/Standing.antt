-- While it is being finished, a rack goes on standing for its state.
use Rattle.std.proofs.Common.{◌≡◌, ◌⊎◌, inl, inr, ℕ, suc, ◌+◌, ◌%◌, ◌<◌, ◌≤◌, Bool, true, false, ◌&&◌, ◌||◌, cond, leb, nat_eq, List, [], ◌∷◌, Option, Some, None, refl, sym, ◌∙◌, ap, subst, arith}
use Rattle.std.specs.Prelude.{not, max, unwrap_or}
use Rattle.std.specs.List.{slice_get}
use Rattle.std.specs.Str.{bytes_eq}
use Rattle.std.proofs.lemmas.Bool.{and_parts, cases_Bool}
use Rattle.std.proofs.lemmas.Bool.Decides.{nat_tests}
use Rattle.std.proofs.lemmas.Slice.Eq.{bytes_eq-Decides}
use Rattle.st_limits.specs.declared.TheConstants.{MAX_POOL_SERIAL}
use Rattle.st_fields.specs.Slot.{Found}
use Rattle.st_header.specs.Header.{header_of, IsHeader}
use Rattle.st_header.proofs.Headers.{grammar}
use Rattle.st_units.specs.declared.rows.DevRow.{DevRow}
use Rattle.st_poolrec.specs.declared.record.PoolRec.{PoolRec}
use Rattle.st_poolrec.specs.Record as pools
use Rattle.st_model.specs.declared.state.EngineState.{EngineState}
use Rattle.st_model.specs.declared.state.PoolState.{PoolState}
use Rattle.st_model.specs.Found.{with_own_serial}
use Rattle.st_model.specs.Merged.{merged}
use Rattle.st_rack.specs.Story.{Content}
use Rattle.st_rack.specs.Device.{Path, Image, cells}
use Rattle.st_rack.specs.Calls.{Devices, Has, Rises}
use Rattle.st_slots.specs.Reading.{read_slot}
use Rattle.st_slots.proofs.OldOrNew.{in_place}
use Rattle.st_commit.specs.Standing.{keep}
use Rattle.st_deltalog.specs.Log.{serial_in}
use Rattle.st_judge.specs.Placing.{has_row, holds}
use Rattle.st_judge.specs.Verdicts.{lacks_record}
use Rattle.st_judge.proofs.Newest.{record_serial}
use Rattle.st_judge.proofs.Placed.{has_at}
use Rattle.st_image.specs.Looks.{has_header, pool_area, slot_on}
use Rattle.st_image.specs.Bears.{Bears, Candidate, HasRow, OnRowsAlone, candidate, newest_over}
use Rattle.st_image.specs.Rack.{RackStands, slot_serial, greatest_on, greatest_over}
use Rattle.st_image.specs.Stands.{IsFound, IsLacking, Nothing, Gone, StandsFor, is_on}
use Rattle.st_image.proofs.Unique.{one_newest, stands_once}
use Rattle.st_parting.specs.Found.{AllFinished}
use Rattle.st_parting.proofs.Newest.{some_same, none_some, none_all, newest_is, newest_most, same_newest}
use Rattle.st_parting.proofs.Headers.{candidate_has, candidate_slot, header_is, slot_read, with_header}
use Rattle.st_parting.proofs.Rows.{all_at, all_by, not_both}
use Rattle.st_parting.proofs.Same.{SameCandidates, SameOnRows, bears_same, state_same, whole_same}
use Rattle.st_parting.proofs.Finding.{greatest_at}
use Rattle.st_finishing.specs.Finishing.{IsBeingWritten, IsFinished, IsFinishing, Lacks, StandsStill}
use Rattle.st_finishing.proofs.Written.{has_same, header_same, held_there, kept_found, lacks_it, not_kept, slot_torn}

or_true : (a b : Bool) → (a || b) ≡ true → (a ≡ true) ⊎ (b ≡ true)
or_true true b e = inl refl
or_true false b e = inr e

row_of_path : (rows : List DevRow) (p : Path) → has_row rows p ≡ true → (j : ℕ) × (row : DevRow) × (slice_get rows j ≡ Some row) × (row.path ≡ p)
row_of_path [] p e = absurd (cc)
row_of_path (x ∷ xs) p e = elim (or_true (bytes_eq x.path p) (has_row xs p) e) [
  | inl here ↦ (0, x, refl, (bytes_eq-Decides x.path p).0 here)
  | inr later ↦ let rest = row_of_path xs p later in (suc rest.0, rest.1, rest.2, rest.3)
]

same_or_not : (x y : ℕ) → (x ≡ y) ⊎ (x ≡ y → ⊥)
same_or_not x y = elim (cases_Bool (nat_eq x y)) [
  | inl e ↦ inl (is x y e)
  | inr ne ↦ inr (λ same. not_both (nat_eq x y) (is_same x y same) ne)
]
  where
    is : (x y : ℕ) → nat_eq x y ≡ true → x ≡ y
    is x y e = grind (arith, nat_tests)

    is_same : (x y : ℕ) → x ≡ y → nat_eq x y ≡ true
    is_same x y e = grind (arith, nat_tests)

le_true : (n m : ℕ) → n ≤ m → leb n m ≡ true
le_true n m le = grind (arith, nat_tests)

all_low : (ds : Devices) (c : Image) (most : ℕ) → ((k : ℕ) (d : Path × ℕ) → slice_get ds k ≡ Some d → greatest_on d.1 (c d.0) ≤ most) → greatest_over ds c ≤ most
all_low [] c most each = omega arith
all_low (d ∷ ds) c most each = both (greatest_on d.1 (c d.0)) (greatest_over ds c) (each 0 d refl) (all_low ds c most (λ k e at. each (suc k) e at))
  where
    both : (x y : ℕ) → x ≤ most → y ≤ most → max x y ≤ most
    both x y le lt = omega arith

pub one_header : (p q n : ℕ) (f : Content) → has_header p n f ≡ true → has_header q n f ≡ true → p ≡ q
one_header p q n f one two = some_same p q (sym (header_is p n f one) ∙ header_is q n f two)

-- a device with a header is large enough for a pool
pub header_large : (q n : ℕ) (f : Content) → has_header q n f ≡ true → 8192 ≤ n
header_large q n f has = let right : IsHeader n (cells f 0 8192) q = grammar n (cells f 0 8192) (Some q) (sym (header_is q n f has)) in right.large

module _ (devs : Devices) (a c : Image) (rises : Rises devs) (finishing : IsFinishing devs a c) where
  -- a device that lacks a record has the header, and is of a row
  module _ (p : Path) (n : ℕ) (l : Lacks devs a (p, n)) where
    parts : (has_header l.q n (a p) ≡ true) × ((has_row l.rec.devs p && not (holds (l.g, pools.record_text l.rec) (slot_on n (l.g % 2) (a p)))) ≡ true)
    parts = and_parts (has_header l.q n (a p)) _ l.lacks

    pub lacking_header : has_header l.q n (a p) ≡ true
    lacking_header = parts.0

    more : (has_row l.rec.devs p ≡ true) × (not (holds (l.g, pools.record_text l.rec) (slot_on n (l.g % 2) (a p))) ≡ true)
    more = and_parts (has_row l.rec.devs p) _ parts.1

    lacking_row : has_row l.rec.devs p ≡ true
    lacking_row = more.0

    not_there : slot_on n (l.g % 2) (a p) ≡ Some (l.g, pools.record_text l.rec) → ⊥
    not_there is = lacks_it l.g (pools.record_text l.rec) (slot_on n (l.g % 2) (a p)) more.1 is

    own_serial : serial_in (pools.record_text l.rec) ≡ l.q
    own_serial = record_serial l.rec l.bears.is ∙ l.bears.serial

  header_stays : (q : ℕ) (p : Path) (n : ℕ) → Has devs p n → has_header q n (c p) ≡ has_header q n (a p)
  header_stays q p n has = elim (finishing p n has) [
    | inl same ↦ ap (has_header q n) same
    | inr one ↦ has_same one.0.g (pools.record_text one.0.rec) (a p) (c p) one.1 q n
  ]

  module _ (p : ℕ) where
    -- no device of this pool lacks a record of it
    abbrev NoneLacks : Type 0
    NoneLacks = (d : Path) (n : ℕ) → Has devs d n → (l : Lacks devs a (d, n)) → l.q ≡ p → ⊥

    device_same : NoneLacks → (d : Path) (n : ℕ) → Has devs d n → has_header p n (a d) ≡ true → c d ≡ a d
    device_same none d n has header = elim (finishing d n has) [
      | inl same ↦ same
      | inr one ↦ absurd (none d n has one.0 (one_header one.0.q p n (a d) (lacking_header d n one.0) header))
    ]

    candidates_stay : NoneLacks → SameCandidates p devs devs a c
    candidates_stay none = record {
      to = λ x one. (
          let has = has_at devs one.index one.dev rises one.of in
          let same = device_same none one.dev.0 one.dev.1 has (candidate_has p one.dev.1 one.place (a one.dev.0) x one.found) in
          record { index = one.index; dev = one.dev; of = one.of; place = one.place; of_two = one.of_two; found = ap (candidate p one.dev.1 one.place) same ∙ one.found });
      from = λ x one. (
          let has = has_at devs one.index one.dev rises one.of in
          let same = device_same none one.dev.0 one.dev.1 has (sym (header_stays p one.dev.0 one.dev.1 has) ∙ candidate_has p one.dev.1 one.place (c one.dev.0) x one.found) in
          record { index = one.index; dev = one.dev; of = one.of; place = one.place; of_two = one.of_two; found = ap (candidate p one.dev.1 one.place) (sym same) ∙ one.found });
    }

    -- no slot of the pool comes to a device that is in no row
    alone_stays : (rows : List DevRow) → ((d : Path) (n : ℕ) → Has devs d n → (l : Lacks devs a (d, n)) → l.q ≡ p → has_row rows d ≡ true) → OnRowsAlone p devs rows a → OnRowsAlone p devs rows c
    alone_stays rows within alone k d at none place lt = elim (finishing d.0 d.1 (has_at devs k d rises at)) [
      | inl same ↦ ap (λ (f : Content). keep p (slot_on d.1 place f)) same ∙ alone k d at none place lt
      | inr one ↦ elim (same_or_not one.0.q p) [
        | inl is ↦
            let row = row_of_path rows d.0 (within d.0 d.1 (has_at devs k d rises at) one.0 is) in
            absurd (none row.1 row.0 row.2 row.3)
        | inr other ↦
            let header = lacking_header d.0 d.1 one.0 in
            let there : has_header one.0.q d.1 (c d.0) ≡ true = has_same one.0.g (pools.record_text one.0.rec) (a d.0) (c d.0) one.1 one.0.q d.1 ∙ header in
            ap (keep p) (slot_read one.0.q d.1 place (c d.0) there) ∙ elim (slot_torn one.0.g (pools.record_text one.0.rec) (a d.0) (c d.0) one.1 place lt) [
              | inl nothing ↦ ap (keep p) nothing
              | inr (inl before) ↦ ap (keep p) (before ∙ sym (slot_read one.0.q d.1 place (a d.0) header)) ∙ alone k d at none place lt
              | inr (inr written) ↦ ap (keep p) written.1 ∙ not_kept p (one.0.g, pools.record_text one.0.rec) (λ e. other (sym (own_serial d.0 d.1 one.0) ∙ e))
            ]
      ]
    ]

    row_stays : (row : DevRow) → HasRow p devs a row → HasRow p devs c row
    row_stays row one = record { index = one.index; of = one.of; header = header_stays p row.path row.sectors (has_at devs one.index (row.path, row.sectors) rises one.of) ∙ one.header }

    row_held : NoneLacks → (row : DevRow) → HasRow p devs a row → c row.path ≡ a row.path
    row_held none row one = device_same none row.path row.sectors (has_at devs one.index (row.path, row.sectors) rises one.of) one.header

    -- a known pool
    alive_lacks_none : (g : ℕ) (rec : PoolRec) → Bears p devs g rec a → rec.gone ≡ false → NoneLacks
    alive_lacks_none g rec bears alive d n has l is =
        let one : Bears p devs l.g l.rec a = subst (λ (q : ℕ). Bears q devs l.g l.rec a) is l.bears in
        let same = (one_newest p devs a g l.g rec l.rec bears one).1 in
        not_both rec.gone (ap (λ (r : PoolRec). r.gone) same ∙ l.gone) alive

    within_none : NoneLacks → (rows : List DevRow) → (d : Path) (n : ℕ) → Has devs d n → (l : Lacks devs a (d, n)) → l.q ≡ p → has_row rows d ≡ true
    within_none none rows d n has l is = absurd (none d n has l is)

    found_stays : (pool : PoolState) → IsFound p devs a pool → IsFound p devs c pool
    found_stays pool one =
        let g = one.0 in
        let rec = one.1 in
        let whole = one.3 in
        let none = alive_lacks_none g rec whole.bears.record_of whole.alive in
        let same = candidates_stay none in
        let held : SameOnRows rec.devs a c = λ j row at. row_held none row (all_at (HasRow p devs a) rec.devs j row whole.bears.rows at) in
        let alone = alone_stays rec.devs (within_none none rec.devs) whole.bears.record_of.alone in
        let rows = all_by (HasRow p devs c) rec.devs (λ j row at. row_stays row (all_at (HasRow p devs a) rec.devs j row whole.bears.rows at)) in
        (g, rec, one.2, whole_same p devs devs a c same g rec one.2 held alone rows whole, one.4 ∙ ap merged (sym (state_same p devs devs a c same g rec one.2 held whole)))

    lacking_stays : (pool : PoolState) → IsLacking p devs a pool → IsLacking p devs c pool
    lacking_stays pool one =
        let g = one.0 in
        let rec = one.1 in
        let lack = one.3 in
        let none = alive_lacks_none g rec lack.bears lack.alive in
        let alone = alone_stays rec.devs (within_none none rec.devs) lack.bears.alone in (
          g,
          rec,
          one.2,
          record {
            bears = bears_same p devs devs a c (candidates_stay none) g rec alone lack.bears;
            alive = lack.alive;
            lacks = lack.lacks;
            rows = all_by (λ (row : DevRow). is_on row.path devs ≡ true → HasRow p devs c row) rec.devs (λ j row at there. row_stays row (all_at (λ (r : DevRow). is_on r.path devs ≡ true → HasRow p devs a r) rec.devs j row lack.rows at there));
          },
          one.4,
        )

    nothing_stays : newest_over p devs a ≡ None → newest_over p devs c ≡ None
    nothing_stays none = sym (same_newest p devs devs a c same.to same.from (λ x y one two e. absurd (none_all p a devs x none one))) ∙ none
      where
        lacks : NoneLacks
        lacks d n has l is = none_some (l.g, pools.record_text l.rec) (sym none ∙ subst (λ (q : ℕ). newest_over q devs a ≡ Some (l.g, pools.record_text l.rec)) is l.bears.newest)

        same : SameCandidates p devs devs a c
        same = candidates_stay lacks

    module _ (g : ℕ) (rec : PoolRec) (bears : Bears p devs g rec a) where
      own_record : (d : Path) (n : ℕ) (l : Lacks devs a (d, n)) → l.q ≡ p → (l.g ≡ g) × (l.rec ≡ rec)
      own_record d n l is = one_newest p devs a l.g g l.rec rec (subst (λ (q : ℕ). Bears q devs l.g l.rec a) is l.bears) bears

      -- no other candidate comes
      gone_from : (x : ℕ × List ℕ) → Candidate p devs c x → Candidate p devs a x
      gone_from x one = elim (finishing one.dev.0 one.dev.1 has) [
        | inl same ↦ record { index = one.index; dev = one.dev; of = one.of; place = one.place; of_two = one.of_two; found = ap (candidate p one.dev.1 one.place) (sym same) ∙ one.found }
        | inr w ↦ written w.0 w.1 (slot_torn w.0.g (pools.record_text w.0.rec) (a one.dev.0) (c one.dev.0) w.1 one.place one.of_two)
      ]
        where
          has : Has devs one.dev.0 one.dev.1
          has = has_at devs one.index one.dev rises one.of

          header : has_header p one.dev.1 (c one.dev.0) ≡ true
          header = candidate_has p one.dev.1 one.place (c one.dev.0) x one.found

          header_before : has_header p one.dev.1 (a one.dev.0) ≡ true
          header_before = sym (header_stays p one.dev.0 one.dev.1 has) ∙ header

          reads : keep p (read_slot pool_area one.place (c one.dev.0)) ≡ Some x
          reads = sym (with_header p one.dev.1 one.place (c one.dev.0) header) ∙ one.found

          written : (l : Lacks devs a (one.dev.0, one.dev.1)) → IsBeingWritten l.g (pools.record_text l.rec) (a one.dev.0) (c one.dev.0)
              → (read_slot pool_area one.place (c one.dev.0) ≡ None) ⊎ ((read_slot pool_area one.place (c one.dev.0) ≡ read_slot pool_area one.place (a one.dev.0)) ⊎ ((one.place ≡ l.g % 2) × (read_slot pool_area one.place (c one.dev.0) ≡ Some (l.g, pools.record_text l.rec))))
              → Candidate p devs a x
          written l w (inl none) = absurd (none_some x (sym (ap (keep p) none) ∙ reads))
          written l w (inr (inl before)) = record {
            index = one.index;
            dev = one.dev;
            of = one.of;
            place = one.place;
            of_two = one.of_two;
            found = with_header p one.dev.1 one.place (a one.dev.0) header_before ∙ ap (keep p) (sym before) ∙ reads;
          }
          written l w (inr (inr is)) =
              let own = own_record one.dev.0 one.dev.1 l (one_header l.q p one.dev.1 (a one.dev.0) (lacking_header one.dev.0 one.dev.1 l) header_before) in
              let same : (l.g, pools.record_text l.rec) ≡ x = some_same (l.g, pools.record_text l.rec) x (sym is.1 ∙ kept_found p (read_slot pool_area one.place (c one.dev.0)) x reads) in
              let top : (g, pools.record_text rec) ≡ x = (λ i. (sym own.0 i, pools.record_text (sym own.1 i))) ∙ same in
              subst (λ (y : ℕ × List ℕ). Candidate p devs a y) top (newest_is p a devs (g, pools.record_text rec) bears.newest)

      -- the bearer keeps it
      bearer_stays : Candidate p devs c (g, pools.record_text rec)
      bearer_stays = stays (newest_is p a devs (g, pools.record_text rec) bears.newest)
        where
          stays : Candidate p devs a (g, pools.record_text rec) → Candidate p devs c (g, pools.record_text rec)
          stays one =
              let has = has_at devs one.index one.dev rises one.of in
              let header = candidate_has p one.dev.1 one.place (a one.dev.0) (g, pools.record_text rec) one.found in
              let slot = kept_found p (slot_on one.dev.1 one.place (a one.dev.0)) (g, pools.record_text rec) (candidate_slot p one.dev.1 one.place (a one.dev.0) (g, pools.record_text rec) one.found) in
              let place : g % 2 ≡ one.place = in_place pool_area one.place (a one.dev.0) (g, pools.record_text rec) (sym (slot_read p one.dev.1 one.place (a one.dev.0) header) ∙ slot) in
              let same : c one.dev.0 ≡ a one.dev.0 = elim (finishing one.dev.0 one.dev.1 has) [
                | inl same ↦ same
                | inr w ↦
                    let own = own_record one.dev.0 one.dev.1 w.0 (one_header w.0.q p one.dev.1 (a one.dev.0) (lacking_header one.dev.0 one.dev.1 w.0) header) in
                    let there : slot_on one.dev.1 (g % 2) (a one.dev.0) ≡ Some (g, pools.record_text rec) = ap (λ (r : ℕ). slot_on one.dev.1 r (a one.dev.0)) place ∙ slot in
                    absurd (not_there one.dev.0 one.dev.1 w.0 ((λ i. slot_on one.dev.1 (own.0 i % 2) (a one.dev.0)) ∙ there ∙ (λ i. Some (sym own.0 i, pools.record_text (sym own.1 i)))))
              ] in
              record { index = one.index; dev = one.dev; of = one.of; place = one.place; of_two = one.of_two; found = ap (candidate p one.dev.1 one.place) same ∙ one.found }

      newest_stays : newest_over p devs c ≡ Some (g, pools.record_text rec)
      newest_stays = by (newest_over p devs c) refl
        where
          by : (o : Found) → newest_over p devs c ≡ o → newest_over p devs c ≡ Some (g, pools.record_text rec)
          by None is = absurd (none_all p c devs (g, pools.record_text rec) is bearer_stays)
          by (Some y) is =
              let of_y = gone_from y (newest_is p c devs y is) in
              let le : y.0 ≤ g = newest_most p a devs (g, pools.record_text rec) y bears.newest of_y in
              let ge : g ≤ y.0 = newest_most p c devs y (g, pools.record_text rec) is bearer_stays in
              let same : y.0 ≡ g = omega (arith, le, ge) in
              let body : y.1 ≡ pools.record_text rec = bears.sound.one y (g, pools.record_text rec) of_y (newest_is p a devs (g, pools.record_text rec) bears.newest) same in
              is ∙ (λ i. Some (same i, body i))

      pub gone_stays : Bears p devs g rec c
      gone_stays = record {
        newest = newest_stays;
        is = bears.is;
        serial = bears.serial;
        sound = record {
          one = λ x y first second e. bears.sound.one x y (gone_from x first) (gone_from y second) e;
          each = λ x first. bears.sound.each x (gone_from x first);
        };
        alone = alone_stays rec.devs (λ d n has l is. subst (λ (r : PoolRec). has_row r.devs d ≡ true) (own_record d n l is).1 (lacking_row d n l)) bears.alone;
      }

    pub pool_stays : (o : Option PoolState) → StandsFor p devs a o → StandsFor p devs c o
    pool_stays None (Nothing none) = Nothing (nothing_stays none)
    pool_stays None (Gone g rec bears gone) = Gone g rec (gone_stays g rec bears) gone
    pool_stays (Some pool) (inl one) = inl (found_stays pool one)
    pool_stays (Some pool) (inr one) = inr (lacking_stays pool one)

  -- no greater serial comes
  slot_low : (p : Path) (n : ℕ) (l : Lacks devs a (p, n)) (w : IsBeingWritten l.g (pools.record_text l.rec) (a p) (c p)) (place : ℕ) → place < 2 → slot_serial (slot_on n place (c p)) ≤ max l.q (slot_serial (slot_on n place (a p)))
  slot_low p n l w place lt =
      let header = lacking_header p n l in
      let there : has_header l.q n (c p) ≡ true = has_same l.g (pools.record_text l.rec) (a p) (c p) w l.q n ∙ header in
      subst (λ (o : Found). slot_serial o ≤ max l.q (slot_serial (slot_on n place (a p)))) (sym (slot_read l.q n place (c p) there)) (elim (slot_torn l.g (pools.record_text l.rec) (a p) (c p) w place lt) [
        | inl none ↦ subst (λ (o : Found). slot_serial o ≤ max l.q (slot_serial (slot_on n place (a p)))) (sym none) (omega arith)
        | inr (inl before) ↦ subst (λ (o : Found). slot_serial o ≤ max l.q (slot_serial (slot_on n place (a p)))) (sym (before ∙ sym (slot_read l.q n place (a p) header))) (second l.q (slot_serial (slot_on n place (a p))))
        | inr (inr written) ↦ subst (λ (o : Found). slot_serial o ≤ max l.q (slot_serial (slot_on n place (a p)))) (sym written.1) (
            subst (λ (k : ℕ). k ≤ max l.q (slot_serial (slot_on n place (a p)))) (sym (serial_is (own_serial p n l) l.serial.until)) (first l.q (slot_serial (slot_on n place (a p)))))
      ])
    where
      first : (x y : ℕ) → x ≤ max x y
      first x y = omega arith

      second : (x y : ℕ) → y ≤ max x y
      second x y = omega arith

      serial_is : serial_in (pools.record_text l.rec) ≡ l.q → l.q ≤ MAX_POOL_SERIAL → slot_serial (Some (l.g, pools.record_text l.rec)) ≡ l.q
      serial_is e small = ap (λ (b : Bool). cond b (serial_in (pools.record_text l.rec)) 0) (le_true (serial_in (pools.record_text l.rec)) MAX_POOL_SERIAL (omega (arith, e, small))) ∙ e

  greatest_stays : greatest_over devs c ≤ greatest_over devs a
  greatest_stays = all_low devs c (greatest_over devs a) each
    where
      three : (h x y s t most : ℕ) → s ≤ max h x → t ≤ max h y → max h (max x y) ≤ most → max h (max s t) ≤ most
      three h x y s t most one two le = omega (arith, one, two, le)

      each : (k : ℕ) (d : Path × ℕ) → slice_get devs k ≡ Some d → greatest_on d.1 (c d.0) ≤ greatest_over devs a
      each k d at = elim (finishing d.0 d.1 (has_at devs k d rises at)) [
        | inl same ↦ subst (λ (f : Content). greatest_on d.1 f ≤ greatest_over devs a) (sym same) (greatest_at devs a k d at)
        | inr one ↦
            let before = header_is one.0.q d.1 (a d.0) (lacking_header d.0 d.1 one.0) in
            let now : header_of d.1 (cells (c d.0) 0 8192) ≡ Some one.0.q = header_same one.0.g (pools.record_text one.0.rec) (a d.0) (c d.0) one.1 d.1 ∙ before in
            let old : max one.0.q (max (slot_serial (slot_on d.1 0 (a d.0))) (slot_serial (slot_on d.1 1 (a d.0)))) ≤ greatest_over devs a =
            subst (λ (o : Option ℕ). max (unwrap_or o 0) (max (slot_serial (slot_on d.1 0 (a d.0))) (slot_serial (slot_on d.1 1 (a d.0)))) ≤ greatest_over devs a) before (greatest_at devs a k d at) in
            subst (λ (o : Option ℕ). max (unwrap_or o 0) (max (slot_serial (slot_on d.1 0 (c d.0))) (slot_serial (slot_on d.1 1 (c d.0)))) ≤ greatest_over devs a) (sym now)
            (three one.0.q (slot_serial (slot_on d.1 0 (a d.0))) (slot_serial (slot_on d.1 1 (a d.0))) (slot_serial (slot_on d.1 0 (c d.0))) (slot_serial (slot_on d.1 1 (c d.0))) (greatest_over devs a)
            (slot_low d.0 d.1 one.0 one.1 0 (omega arith)) (slot_low d.0 d.1 one.0 one.1 1 (omega arith)) old)
      ]

  module _ (e : EngineState) (stands : RackStands devs a e) where
    pub stands_still : StandsStill e devs c
    stands_still = (
      greatest_over devs c + 1,
      lower,
      record {
        each = λ p serial. pool_stays p (with_own_serial p e) (stands.each p serial);
        serials = stands.serials;
        names = stands.names;
        few = stands.few;
        devices = stands.devices;
        next = refl;
      },
    )
      where
        lower : greatest_over devs c + 1 ≤ e.next
        lower = let next = stands.next in let le = greatest_stays in omega (arith, next, le)

    module _ (finished : IsFinished devs a c) where
      pub all_finished : AllFinished devs c
      all_finished q g rec serial bears gone p n has header row = by (with_own_serial q e) (stands.each q serial)
        where
          some_none : (pool : PoolState) → Some pool ≡ None → ⊥
          some_none pool x = cc

          header_before : has_header q n (a p) ≡ true
          header_before = sym (header_stays q p n has) ∙ header

          as_read : (old : ℕ) (was : PoolRec) → Bears q devs old was a → was.gone ≡ true → (old ≡ g) × (was ≡ rec) → read_slot pool_area (g % 2) (c p) ≡ Some (g, pools.record_text rec)
          as_read old was bears_old gone_old same = elim (cases_Bool (lacks_record q old was a (p, n))) [
            | inl lacks ↦
                let l : Lacks devs a (p, n) = record { q = q; g = old; rec = was; serial = serial; bears = bears_old; gone = gone_old; lacks = lacks } in
                (λ i. read_slot pool_area (sym same.0 i % 2) (c p)) ∙ finished p n has l ∙ (λ i. Some (same.0 i, pools.record_text (same.1 i)))
            | inr none ↦
                let there = holds_it (has_header q n (a p)) (has_row was.devs p) (not (holds (old, pools.record_text was) (slot_on n (old % 2) (a p)))) none header_before (ap (λ (r : PoolRec). has_row r.devs p) same.1 ∙ row) in
                let slot : slot_on n (old % 2) (a p) ≡ Some (old, pools.record_text was) = held_there old (pools.record_text was) (slot_on n (old % 2) (a p)) there in
                let stays : c p ≡ a p = elim (finishing p n has) [
                  | inl unchanged ↦ unchanged
                  | inr w ↦
                      let is = one_header w.0.q q n (a p) (lacking_header p n w.0) header_before in
                      let own = one_newest q devs a w.0.g old w.0.rec was (subst (λ (r : ℕ). Bears r devs w.0.g w.0.rec a) is w.0.bears) bears_old in
                      absurd (not_there p n w.0 ((λ i. slot_on n (own.0 i % 2) (a p)) ∙ slot ∙ (λ i. Some (sym own.0 i, pools.record_text (sym own.1 i)))))
                ] in
                (λ i. read_slot pool_area (sym same.0 i % 2) (stays i)) ∙ sym (slot_read q n (old % 2) (a p) header_before) ∙ slot ∙ (λ i. Some (same.0 i, pools.record_text (same.1 i)))
          ]
            where
              holds_it : (x y z : Bool) → (x && (y && z)) ≡ false → x ≡ true → y ≡ true → z ≡ false
              holds_it true true z is one two = is
              holds_it true false z is one two = absurd (cc)
              holds_it false y z is one two = absurd (cc)

          by : (o : Option PoolState) → StandsFor q devs a o → read_slot pool_area (g % 2) (c p) ≡ Some (g, pools.record_text rec)
          by None (Nothing none) = absurd (none_some (g, pools.record_text rec) (sym (nothing_stays q none) ∙ bears.newest))
          by None (Gone old was bears_old gone_old) = as_read old was bears_old gone_old (one_newest q devs c old g was rec (gone_stays q old was bears_old) bears)
          by (Some pool) known = absurd (some_none pool (stands_once q devs c (Some pool) None (pool_stays q (Some pool) known) (Gone g rec bears gone)))
