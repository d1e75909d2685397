-- What is true while the newest record is written where it is missing, and afterwards.
use Rattle.std.proofs.Common.{◌≡◌, ◌≢◌, inl, inr, ℕ, ◌+◌, ◌*◌, ◌%◌, ◌<◌, ◌≤◌, Bool, true, false, cond, nat_eq, nat_lt, List, [], Some, None, refl, sym, ◌∙◌, ap, subst, arith}
use Rattle.std.specs.List.{slice_get}
use Rattle.std.proofs.lemmas.Bool.{cases_Bool, cases_lt}
use Rattle.std.proofs.lemmas.Bool.Decides.{nat_tests}
use Rattle.st_fields.specs.Slot.{Found}
use Rattle.st_header.specs.Header.{header_of}
use Rattle.st_poolrec.specs.declared.record.PoolRec.{PoolRec}
use Rattle.st_poolrec.specs.Record as pools
use Rattle.st_flexlog.specs.declared.state.FlexState.{FlexState}
use Rattle.st_flexat.specs.FlexAt.{FlexAt}
use Rattle.st_model.specs.Merged.{merged}
use Rattle.st_rack.specs.Story.{Content}
use Rattle.st_rack.specs.Device.{Path, State, held, cells}
use Rattle.st_rack.specs.Calls.{Devices, Has, Rises}
use Rattle.st_rack.specs.Moments.{Goes, Keeps}
use Rattle.st_rack.proofs.Moments.{at_moment}
use Rattle.st_slots.specs.Places.{place_at}
use Rattle.st_slots.specs.Reading.{read_slot, newer}
use Rattle.st_slots.specs.declared.spot.Area.{Area}
use Rattle.st_deltalog.specs.declared.area.FlexArea.{FlexArea}
use Rattle.st_deltalog.specs.Log.{Log, serial_in}
use Rattle.st_deltalog.specs.Bearing.{IsSettled, Rests}
use Rattle.st_deltalog.proofs.Restart.{rests_read}
use Rattle.st_commit.specs.Standing.{keep}
use Rattle.st_commit.specs.Ready.{AllSlots, AreApart, BearsRecord, IsOf, IsSound, Outside, Ranked, Spares}
use Rattle.st_commit.specs.Repair.{AllSure, Newest, NewestOnly}
use Rattle.st_commit.proofs.Frame.{spares_self}
use Rattle.st_commit.proofs.Over.{AtLeast, is_top, kept, newer_either, newer_first, newer_last}
use Rattle.st_commit.proofs.Repairing.{ready_mended}
use Rattle.st_commit.proofs.Steps.{local}
use Rattle.st_image.specs.Looks.{pool_area, flex_area, has_header, slot_on}
use Rattle.st_image.specs.Bears.{Bears, candidate, first_of, newest_on, paths}
use Rattle.st_image.specs.Stands.{Gone, StandsFor, state_of}
use Rattle.st_image.specs.Committed.{Committed, HasOwnHeader}
use Rattle.st_image.specs.Kept.{NoneOrGone}
use Rattle.st_image.proofs.Committing.{first_at, flex_sound, not_serial, path_at}
use Rattle.st_books.proofs.Texts.{record_serial}
use Rattle.st_starting.specs.Alike.{StandsAlike}
use Rattle.st_starting.specs.Found.{TellsOfNone, sized}
use Rattle.st_starting.specs.inner.Finding.{NewestOn}
use Rattle.st_starting.proofs.Devices.{none_some, paths_sized, sized_in, some_same}
use Rattle.st_starting.proofs.Restrict.{bears_there}
use Rattle.st_starting.proofs.History.{newest_of, past, told, top}
use Rattle.st_starting.proofs.Moments.{bare_places, gone_left, have_rows, header_stays, was_left, whole_left}

-- what a repair promises at each moment
pub record Repaired {D : Type 0} (moment : D → ℕ) (state_at : D → ℕ → State) (area : Area) (list : List Path) (g : ℕ) (text : List ℕ) (old new : D) : Type 0 where
  pub spares : Goes moment state_at (Spares area g list) old new
  pub during : (p : ℕ) (h : ℕ → List ℕ) (bearer : Path) → Newest area p h list bearer g text (state_at old (moment old)) → Keeps moment state_at (NewestOnly area p list g text) old new
  pub slots : (p : ℕ) (h : ℕ → List ℕ) (bearer : Path) → Newest area p h list bearer g text (state_at old (moment old)) → Keeps moment state_at (AllSlots area list (Ranked p h g)) old new
  pub logs : (flex : FlexArea) (p up k : ℕ) (log : Log) (first : Path) → IsSound flex → AreApart area flex.area → Rests flex p up k log (state_at old (moment old) first) → Keeps moment state_at (λ s. Rests flex p up k log (s first)) old new

-- and where it is done
abbrev pub Done : Area → List Path → ℕ → List ℕ → State → State → Type 0
Done area list g text a b = (p : ℕ) (h : ℕ → List ℕ) (bearer : Path) → Newest area p h list bearer g text a → AllSure area list g a → Newest area p h list bearer g text b × ((d : Path) → IsOf list d → BearsRecord area g text (b d))

-- at the start itself nothing has changed
pub alike_self : (p : ℕ) (devs : Devices) (s : State) → StandsAlike p devs s s
alike_self p devs s c leaves = record { image = c; left = leaves; same = λ found stands. (stands, λ others. others) }

module _ {D : Type 0} (moment : D → ℕ) (state_at : D → ℕ → State) (p : ℕ) (from : 1 ≤ p) (rack : Devices) (list : List Path) (rises : Rises rack) (there : (d : Path) → IsOf list d → (n : ℕ) × Has rack d n)
    (old new : D) (settled_list : (d : Path) → IsOf list d → IsSettled (state_at old (moment old) d)) (g : ℕ) (rec : PoolRec) (on : NewestOn p rack list (held (state_at old (moment old))) g rec) where
  abbrev U : Devices
  U = sized rack list

  abbrev s1 : State
  s1 = state_at old (moment old)

  abbrev s2 : State
  s2 = state_at new (moment new)

  abbrev text : List ℕ
  text = pools.record_text rec

  settled : (d : Path) → IsOf (paths U) d → IsSettled (s1 d)
  settled d of = settled_list d (subst (λ (l : List Path). IsOf l d) (paths_sized rack list) of)

  abbrev h : ℕ → List ℕ
  h = told p s1 rack U rises (sized_in rack list there) g rec on.bears on.on on.headed from

  first_new : (bearer : Path) × Newest pool_area p h (paths U) bearer g text s1
  first_new = newest_of p s1 rack U rises (sized_in rack list there) g rec on.bears on.on on.headed from settled

  bears_u : Bears p U g rec (held s1)
  bears_u = bears_there p (held s1) rack U rises (sized_in rack list there) g rec on.bears on.on on.headed

  headers : (s : State) → Spares pool_area g (paths U) s1 s → (k : ℕ) (d : Path × ℕ) → slice_get U k ≡ Some d → HasOwnHeader p d.1 (s d.0)
  headers s spares k d at = header_stays p d.1 g (paths U) d.0 s1 s (settled d.0 (record { index = k; is = path_at U k d at })) (on.headed k d at) spares

  module _ (did : Repaired moment state_at pool_area (paths U) g text old new) where
    spared : (k : ℕ) → moment old ≤ k → k ≤ moment new → Spares pool_area g (paths U) s1 (state_at new k)
    spared k low high = at_moment moment state_at (Spares pool_area g (paths U)) old new (spares_self pool_area g (paths U) s1) did.spares k low high

    only_at : (k : ℕ) → moment old ≤ k → k ≤ moment new → NewestOnly pool_area p (paths U) g text (state_at new k)
    only_at = (did.during p h first_new.0 first_new.1).all

    slots_at : (k : ℕ) → moment old ≤ k → k ≤ moment new → AllSlots pool_area (paths U) (Ranked p h g) (state_at new k)
    slots_at = (did.slots p h first_new.0 first_new.1).all

    -- while the record of a pool that is gone is written
    pub gone_alike : rec.gone ≡ true → Keeps moment state_at (StandsAlike p U s1) old new
    gone_alike gone = record {
      later = did.spares.later;
      past = did.spares.past;
      all = λ k low high c leaves. was_left p U g s1 (state_at new k) c settled (spared k low high) leaves
          (gone_left p U g rec on.bears.is on.bears.serial on.on h (past p s1 rack U rises (sized_in rack list there) g rec on.bears on.on on.headed from) (state_at new k) (headers (state_at new k) (spared k low high)) (only_at k low high) (slots_at k low high) c leaves
          (held s1) gone (Gone g rec bears_u gone));
    }

    module _ (st : FlexState) (alive : rec.gone ≡ false) (flexed : FlexAt flex_area p g (held s1 (first_of rec)) st) (version : st.version2 ≡ rec.version2) (none : st.mappings ≡ []) where
      first_is : slice_get (paths U) 0 ≡ Some (first_of rec)
      first_is = first_at U rec on.bears.is on.on

      rests : Rests flex_area p g g flexed.log (s1 (first_of rec))
      rests = rests_read flex_area p g flexed.log (s1 (first_of rec)) (settled (first_of rec) (record { index = 0; is = first_is })) flexed.is

      rests_at : (k : ℕ) → moment old ≤ k → k ≤ moment new → Rests flex_area p g g flexed.log (state_at new k (first_of rec))
      rests_at = (did.logs flex_area p g g flexed.log (first_of rec) flex_sound (inl (omega arith)) rests).all

      pub stands_first : StandsFor p U (held s1) (Some (merged (state_of g rec st (held s1))))
      stands_first = inl (
        g,
        rec,
        st,
        record {
          bears = record { record_of = bears_u; rows = have_rows p U (held s1) rec on.on on.headed; flexed = flexed; version = version };
          alive = alive;
          places = bare_places rec st none;
        },
        refl,
      )

      pub whole_alike : Keeps moment state_at (StandsAlike p U s1) old new
      whole_alike = record {
        later = did.spares.later;
        past = did.spares.past;
        all = λ k low high c leaves. was_left p U g s1 (state_at new k) c settled (spared k low high) leaves
            (whole_left p U g rec on.bears.is on.bears.serial on.on h (past p s1 rack U rises (sized_in rack list there) g rec on.bears on.on on.headed from) (state_at new k) (headers (state_at new k) (spared k low high)) (only_at k low high) (slots_at k low high) c leaves
            (held s1) st flexed.log alive flexed.says version none (rests_at k low high) stands_first);
      }

      -- afterwards the devices bear the books
      pub committed_after : Done pool_area (paths U) g text s1 s2 → (one : Committed p U g rec st s2) × (one.log ≡ flexed.log)
      committed_after done =
          let sure : AllSure pool_area (paths U) g s1 = (λ d of i low high. (settled d of).sure i) in
          let all = done p h first_new.0 first_new.1 sure in
          let own : IsOf (paths U) (first_of rec) = record { index = 0; is = first_is } in (
            record {
              up = g;
              h = h;
              log = flexed.log;
              is = on.bears.is;
              serial = on.bears.serial;
              rows = on.on;
              top = top p s1 rack U rises (sized_in rack list there) g rec on.bears on.on on.headed from;
              ready = ready_mended pool_area flex_area p g h (paths U) first_new.0 (first_of rec) g text flexed.log s2 all.0 (all.1 (first_of rec) own) (rests_at (moment new) did.spares.later (omega arith));
              borne = λ k d at. all.1 d.0 (record { index = k; is = path_at U k d at });
              headers = headers s2 (spared (moment new) did.spares.later (omega arith));
              past = past p s1 rack U rises (sized_in rack list there) g rec on.bears on.on on.headed from;
              says = flexed.says;
              version = version;
            },
            refl,
          )

    -- afterwards devices of a pool that is gone tell of none
    module _ (gone : rec.gone ≡ true) (done : Done pool_area (paths U) g text s1 s2)
        (beside : (k : ℕ) (d : Path × ℕ) → slice_get U k ≡ Some d → (x : ℕ × List ℕ) → slot_on d.1 ((g + 1) % 2) (held s1 d.0) ≡ Some x → serial_in x.1 ≡ p) (k : ℕ) (d : Path × ℕ) (at : slice_get U k ≡ Some d) where
      abbrev f : Content
      f = (s2 d.0).holds

      own_serial : serial_in text ≡ p
      own_serial = record_serial rec on.bears.is ∙ on.bears.serial

      of : IsOf (paths U) d.0
      of = record { index = k; is = path_at U k d at }

      last : Spares pool_area g (paths U) s1 s2
      last = spared (moment new) did.spares.later (omega arith)

      both : Newest pool_area p h (paths U) first_new.0 g text s2 × ((e : Path) → IsOf (paths U) e → BearsRecord pool_area g text (s2 e))
      both = done p h first_new.0 first_new.1 (λ e in_list i low high. (settled e in_list).sure i)

      header : has_header p d.1 f ≡ true
      header = (headers s2 last k d at).header

      slot_ranked : (r : ℕ) → r < 2 → (x : ℕ × List ℕ) → candidate p d.1 r f ≡ Some x → (x.0 ≤ g) × (h x.0 ≡ x.1)
      slot_ranked r lt x found = both.0.held d.0 of r lt x (sym (ap (λ (b : Bool). cond b (keep p (read_slot pool_area r f)) None) header) ∙ found)

      there_is : (r : ℕ) → r ≡ g % 2 → AtLeast g (candidate p d.1 r f)
      there_is r e = record {
        one = (g, text);
        is = ap (λ (b : Bool). cond b (keep p (read_slot pool_area r f)) None) header ∙ kept p g text (read_slot pool_area r f) (ap (λ (n : ℕ). read_slot pool_area n f) e ∙ (both.1 d.0 of).reads) own_serial;
        from = omega arith;
      }

      newest_least : AtLeast g (newest_on p d.1 f)
      newest_least = elim (cases_lt (g % 2) 1) [
        | inl even ↦ newer_first g (candidate p d.1 0 f) (candidate p d.1 1 f) (there_is 0 (let z : g % 2 ≡ 0 = omega arith in sym z))
        | inr odd ↦ newer_last g (candidate p d.1 0 f) (candidate p d.1 1 f) (there_is 1 (let o : g % 2 ≡ 1 = omega (arith, odd) in sym o))
      ]

      newest_is : newest_on p d.1 f ≡ Some (g, text)
      newest_is = is_top h g (newest_on p d.1 f) (newer_either (λ o. (x : ℕ × List ℕ) → o ≡ Some x → (x.0 ≤ g) × (h x.0 ≡ x.1)) (candidate p d.1 0 f) (candidate p d.1 1 f) (slot_ranked 0 (omega arith)) (slot_ranked 1 (omega arith))) newest_least
          ∙ ap (λ (b : List ℕ). Some (g, b)) (top p s1 rack U rises (sized_in rack list there) g rec on.bears on.on on.headed from)

      alone : (q : ℕ) → NoneOrGone (newest_on q d.1 f)
      alone q = elim (cases_Bool (nat_eq q p)) [
        | inl hit ↦
            let same : q ≡ p = grind (arith, nat_tests) in
            subst NoneOrGone (sym (ap (λ (n : ℕ). newest_on n d.1 f) same ∙ newest_is)) (rec, record { is = on.bears.is; spelled = refl }, gone)
        | inr miss ↦
            let ne : q ≢ p = (λ e. grind (arith, nat_tests)) in
            let none : has_header q d.1 f ≡ false = not_serial p q (header_of d.1 (cells f 0 8192)) ne header in
            subst NoneOrGone (λ i. newer (cond (sym none i) (keep q (read_slot pool_area 0 f)) None) (cond (sym none i) (keep q (read_slot pool_area 1 f)) None)) tt
      ]

      -- the other slot is what it was
      still : (place : ℕ) → place < 2 → place ≢ g % 2 → read_slot pool_area place f ≡ read_slot pool_area place (held s1 d.0)
      still place lt ne = (local pool_area place).same f (held s1 d.0) (λ i low high. (last d.0).0.same i (out i low high))
        where
          out : (i : ℕ) → place_at pool_area place ≤ i → i < place_at pool_area place + 512 * 64 → Outside pool_area g i
          out i low high = elim (cases_lt place 1) [
            | inl even ↦ (let zero_is : place ≡ 0 = omega (arith, even) in let one : g % 2 ≡ 1 = omega (arith, zero_is, ne) in inl (omega (arith, high, zero_is, one)))
            | inr odd ↦ (let one : place ≡ 1 = omega (arith, odd, lt) in let zero_is : g % 2 ≡ 0 = omega (arith, one, ne) in inr (omega (arith, low, one, zero_is)))
          ]

      slot_same : (place : ℕ) → read_slot pool_area place f ≡ read_slot pool_area place (held s1 d.0) → slot_on d.1 place f ≡ slot_on d.1 place (held s1 d.0)
      slot_same place same = ap (λ (o : Found). cond (nat_lt d.1 8192) None o) same

      seen : (b : Bool) (o : Found) (x : ℕ × List ℕ) → cond b None o ≡ Some x → o ≡ Some x
      seen true o x e = absurd (none_some x e)
      seen false o x e = e

      slots : (place : ℕ) → place < 2 → (x : ℕ × List ℕ) → slot_on d.1 place f ≡ Some x → serial_in x.1 ≡ p
      slots place lt x found = elim (cases_Bool (nat_eq place (g % 2))) [
        | inl hit ↦
            let same : place ≡ g % 2 = grind (arith, nat_tests) in
            let one : (g, text) ≡ x = some_same (g, text) x (sym (both.1 d.0 of).reads ∙ ap (λ (n : ℕ). read_slot pool_area n f) (sym same) ∙ seen (nat_lt d.1 8192) (read_slot pool_area place f) x found) in
            ap (λ (y : ℕ × List ℕ). serial_in y.1) (sym one) ∙ own_serial
        | inr miss ↦
            let ne : place ≢ g % 2 = (λ e. grind (arith, nat_tests)) in
            let other : place ≡ (g + 1) % 2 = omega (arith, lt, ne) in
            beside k d at x (ap (λ (n : ℕ). slot_on d.1 n (held s1 d.0)) (sym other) ∙ sym (slot_same place (still place lt ne)) ∙ found)
      ]

      pub tells_of_none : TellsOfNone p d.1 f
      tells_of_none = record { alone = alone; slots = slots }
