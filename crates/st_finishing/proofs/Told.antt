-- What the rows of pools that are gone tell of devices.
use Rattle.std.proofs.Common.{◌≡◌, inl, inr, ℕ, zero, suc, ◌+◌, ◌*◌, ◌^◌, ◌<◌, ◌≤◌, Bool, true, false, cond, List, [], ◌∷◌, ◌++◌, length, map, Some, refl, sym, ◌∙◌, ap, subst, arith}
use Rattle.std.specs.Prelude.{filter}
use Rattle.std.specs.List.{slice_get, AllByRecursion}
use Rattle.std.specs.List.Sorted.{IsStrictlySortedBy}
use Rattle.std.specs.Str.{bytes_eq}
use Rattle.std.proofs.lemmas.Map.Text.{is_eq-slice_cmp}
use Rattle.std.specs.Ordering.{nat_cmp, is_eq}
use Rattle.std.proofs.Common.{Less}
use Rattle.std.specs.Cmp.Lexicographic.{slice_cmp}
use Rattle.std.proofs.lemmas.Bool.{and_parts, cases_lt}
use Rattle.std.proofs.lemmas.List.{length-append}
use Rattle.st_fields.specs.Slot.{IsSealed, slot_fields, slot_seal, slot_text}
use Rattle.st_fields.proofs.Slots.{length-slot_fields, sealed_of-is}
use Rattle.st_fields.proofs.Spellings.{length-digest}
use Rattle.st_poolrec.specs.Record as pools
use Rattle.st_rack.specs.Story.{Content}
use Rattle.st_rack.specs.Device.{Path, Image, cells}
use Rattle.st_rack.specs.Calls.{Devices, Has, Rises, path_in}
use Rattle.st_rack.proofs.Cells.{length-cells}
use Rattle.st_slots.specs.Places.{Lies}
use Rattle.st_slots.specs.Reading.{read_slot}
use Rattle.st_slots.proofs.Places.{slot_is}
use Rattle.st_commit.specs.Ready.{AreDistinct, IsOf}
use Rattle.st_judge.specs.declared.rows.GoneRow.{GoneRow}
use Rattle.st_judge.specs.Verdicts.{IsGone, lacks_record}
use Rattle.st_judge.proofs.Placed.{has_at}
use Rattle.st_image.specs.Looks.{has_header, pool_area}
use Rattle.st_image.specs.Bears.{Bears, path_of}
use Rattle.st_image.proofs.Unique.{one_newest}
use Rattle.st_assemble.specs.Found.{AreGone, GoneRise}
use Rattle.st_parting.proofs.Newest.{some_same, none_some, newest_is}
use Rattle.st_parting.proofs.Headers.{candidate_has, header_serial, with_header}
use Rattle.st_parting.proofs.Rows.{all_at, at_mapped, equal, mapped_at, not_both}
use Rattle.st_parting.proofs.Finding.{place_of}
use Rattle.st_finishing.specs.Finishing.{Lacks}
use Rattle.st_finishing.proofs.Standing.{header_large, one_header}
use Rattle.st_finishing.proofs.Written.{kept_found}

-- a filtered list
filtered_at : (P : Path × ℕ → Bool) (ds : Devices) (k : ℕ) (d : Path × ℕ) → slice_get (filter P ds) k ≡ Some d → (j : ℕ) × (slice_get ds j ≡ Some d) × (P d ≡ true)
filtered_at P [] k d at = absurd (none_some d at)
filtered_at P (x ∷ xs) k d at = by (P x) refl k at (λ k at. filtered_at P xs k d at)
  where
    by : (b : Bool) → P x ≡ b → (k : ℕ) → slice_get (cond b (x ∷ filter P xs) (filter P xs)) k ≡ Some d → ((k : ℕ) → slice_get (filter P xs) k ≡ Some d → (j : ℕ) × (slice_get xs j ≡ Some d) × (P d ≡ true)) → (j : ℕ) × (slice_get (x ∷ xs) j ≡ Some d) × (P d ≡ true)
    by true e zero at later = (0, at, ap P (sym (some_same x d at)) ∙ e)
    by true e (suc k) at later = let rest = later k at in (suc rest.0, rest.1, rest.2)
    by false e k at later = let rest = later k at in (suc rest.0, rest.1, rest.2)

at_filtered : (P : Path × ℕ → Bool) (ds : Devices) (j : ℕ) (d : Path × ℕ) → slice_get ds j ≡ Some d → P d ≡ true → (k : ℕ) × (slice_get (filter P ds) k ≡ Some d)
at_filtered P [] j d at is = absurd (none_some d at)
at_filtered P (x ∷ xs) zero d at is = (0, subst (λ (b : Bool). slice_get (cond b (x ∷ filter P xs) (filter P xs)) 0 ≡ Some d) (sym (ap P (some_same x d at) ∙ is)) at)
at_filtered P (x ∷ xs) (suc j) d at is = by (P x) (at_filtered P xs j d at is)
  where
    by : (b : Bool) → (k : ℕ) × (slice_get (filter P xs) k ≡ Some d) → (k : ℕ) × (slice_get (cond b (x ∷ filter P xs) (filter P xs)) k ≡ Some d)
    by true rest = (suc rest.0, rest.1)
    by false rest = rest

-- two places of a filtered list are two places of the list, in this order
place_in : (P : Path × ℕ → Bool) (ds : Devices) (i j : ℕ) (d e : Path × ℕ) → slice_get (filter P ds) i ≡ Some d → slice_get (filter P ds) j ≡ Some e → i < j → (k : ℕ) × (l : ℕ) × (slice_get ds k ≡ Some d) × (slice_get ds l ≡ Some e) × (k < l)
place_in P [] i j d e at_d at_e lt = absurd (none_some d at_d)
place_in P (x ∷ xs) i j d e at_d at_e lt = by (P x) i j at_d at_e lt (λ i j at_d at_e lt. place_in P xs i j d e at_d at_e lt) (λ j at_e. filtered_at P xs j e at_e)
  where
    by : (b : Bool) (i j : ℕ) → slice_get (cond b (x ∷ filter P xs) (filter P xs)) i ≡ Some d → slice_get (cond b (x ∷ filter P xs) (filter P xs)) j ≡ Some e → i < j
        → ((i j : ℕ) → slice_get (filter P xs) i ≡ Some d → slice_get (filter P xs) j ≡ Some e → i < j → (k : ℕ) × (l : ℕ) × (slice_get xs k ≡ Some d) × (slice_get xs l ≡ Some e) × (k < l))
        → ((j : ℕ) → slice_get (filter P xs) j ≡ Some e → (k : ℕ) × (slice_get xs k ≡ Some e) × (P e ≡ true)) → (k : ℕ) × (l : ℕ) × (slice_get (x ∷ xs) k ≡ Some d) × (slice_get (x ∷ xs) l ≡ Some e) × (k < l)
    by true zero zero at_d at_e lt later rest = absurd (omega arith)
    by true zero (suc j) at_d at_e lt later rest = let one = rest j at_e in (0, suc one.0, at_d, one.1, omega arith)
    by true (suc i) zero at_d at_e lt later rest = absurd (omega arith)
    by true (suc i) (suc j) at_d at_e lt later rest = let one = later i j at_d at_e (omega (arith, lt)) in (suc one.0, suc one.1, one.2, one.3, omega (arith, one.4))
    by false i j at_d at_e lt later rest = let one = later i j at_d at_e lt in (suc one.0, suc one.1, one.2, one.3, omega (arith, one.4))

-- a device has one place in a rack
first_below : (d : Path × ℕ) (ds : Devices) → Rises (d ∷ ds) → AllByRecursion (λ (q : Path). slice_cmp nat_cmp d.0 q ≡ Less) (map path_in ds)
unfolding IsStrictlySortedBy
first_below d ds h = h.0

rest_rises : (d : Path × ℕ) (ds : Devices) → Rises (d ∷ ds) → Rises ds
unfolding IsStrictlySortedBy
rest_rises d ds h = h.1

less_apart : (x y : Path) → slice_cmp nat_cmp x y ≡ Less → bytes_eq x y ≡ false
less_apart x y h = sym (is_eq-slice_cmp x y) ∙ ap is_eq h

place_once : (ds : Devices) (i j : ℕ) (d e : Path × ℕ) → Rises ds → slice_get ds i ≡ Some d → slice_get ds j ≡ Some e → d.0 ≡ e.0 → i < j → ⊥
place_once [] i j d e rises at_d at_e same lt = none_some d at_d
place_once (x ∷ xs) zero zero d e rises at_d at_e same lt = absurd (omega arith)
place_once (x ∷ xs) (suc i) zero d e rises at_d at_e same lt = absurd (omega arith)
place_once (x ∷ xs) zero (suc j) d e rises at_d at_e same lt =
    let below = all_at (λ (q : Path). slice_cmp nat_cmp x.0 q ≡ Less) (map path_in xs) j e.0 (first_below x xs rises) (at_mapped path_in xs j e at_e) in
    not_both (bytes_eq x.0 e.0) (equal x.0 e.0 (ap (λ (q : Path × ℕ). q.0) (some_same x d at_d) ∙ same)) (less_apart x.0 e.0 below)
place_once (x ∷ xs) (suc i) (suc j) d e rises at_d at_e same lt = place_once xs i j d e (rest_rises x xs rises) at_d at_e same (omega (arith, lt))

-- what a read slot has: a generation, and a body that fits
record FitsSlot (x : ℕ × List ℕ) : Type 0 where
  first : 1 ≤ x.0
  last : x.0 ≤ 2 ^ 48
  short : 64 + length x.1 ≤ 32768

slot_fits : (place : ℕ) (f : Content) (x : ℕ × List ℕ) → read_slot pool_area place f ≡ Some x → FitsSlot x
slot_fits place f x is = record { first = sealed.from; last = sealed.until; short = size }
  where
    bytes : List ℕ
    bytes = cells f (512 * (16 + place * 64)) 32768

    sealed : IsSealed pool_area.magic (cells f (512 * (16 + place * 64)) 32768) x.0 x.1
    sealed = sealed_of-is pool_area.magic (cells f (512 * (16 + place * 64)) 32768) x (slot_is pool_area place f x is).0

    size : 64 + length x.1 ≤ 32768
    size =
        let all : length (cells f (512 * (16 + place * 64)) 32768) ≡ 32768 = length-cells f (512 * (16 + place * 64)) 32768 in
        let spelled : 32768 ≡ length (slot_text pool_area.magic x.0 x.1 ++ sealed.rest) = sym all ∙ ap length sealed.spelled in
        let a : length (slot_text pool_area.magic x.0 x.1 ++ sealed.rest) ≡ length (slot_text pool_area.magic x.0 x.1) + length sealed.rest = length-append (slot_text pool_area.magic x.0 x.1) sealed.rest in
        let b : length (slot_text pool_area.magic x.0 x.1) ≡ length (slot_fields pool_area.magic x.0 (length x.1) ++ slot_seal pool_area.magic x.0 x.1) + length x.1 = length-append (slot_fields pool_area.magic x.0 (length x.1) ++ slot_seal pool_area.magic x.0 x.1) x.1 in
        let c : length (slot_fields pool_area.magic x.0 (length x.1) ++ slot_seal pool_area.magic x.0 x.1) ≡ length (slot_fields pool_area.magic x.0 (length x.1)) + length (slot_seal pool_area.magic x.0 x.1) = length-append (slot_fields pool_area.magic x.0 (length x.1)) (slot_seal pool_area.magic x.0 x.1) in
        let d = length-slot_fields pool_area.magic x.0 (length x.1) refl in
        let e : length (slot_seal pool_area.magic x.0 x.1) ≡ 32 = length-digest (slot_fields pool_area.magic x.0 (length x.1) ++ x.1) in
        omega (arith, all, spelled, a, b, c, d, e)

module _ (devs : Devices) (a : Image) (rises : Rises devs) (row : GoneRow) (gone : IsGone row.serial devs a row) where
  -- a device that the row names lacks the record
  record Named (p : Path) : Type 0 where
    n : ℕ
    has : Has devs p n
    lacks : lacks_record row.serial row.generation gone.rec a (p, n) ≡ true

  devs_are : row.devs ≡ map path_of (filter (lacks_record row.serial row.generation gone.rec a) devs)
  devs_are = ap (λ (r : GoneRow). r.devs) gone.told

  pub rec_is : row.rec ≡ pools.record_text gone.rec
  rec_is = ap (λ (r : GoneRow). r.rec) gone.told

  named : (p : Path) → IsOf row.devs p → Named p
  named p of =
      let here = mapped_at path_of (filter (lacks_record row.serial row.generation gone.rec a) devs) of.index p (subst (λ (l : List Path). slice_get l of.index ≡ Some p) devs_are of.is) in
      let dev = filtered_at (lacks_record row.serial row.generation gone.rec a) devs of.index here.0 here.1 in
      let has = has_at devs dev.0 here.0 rises dev.1 in
      record { n = here.0.1; has = subst (λ (q : Path). Has devs q here.0.1) here.2 has; lacks = subst (λ (q : Path). lacks_record row.serial row.generation gone.rec a (q, here.0.1) ≡ true) here.2 dev.2 }

  header_named : (p : Path) (one : Named p) → has_header row.serial one.n (a p) ≡ true
  header_named p one = (and_parts (has_header row.serial one.n (a p)) _ one.lacks).0

  pub record LacksIts (p : Path) (n : ℕ) : Type 0 where
    pub it : Lacks devs a (p, n)
    pub g_is : row.generation ≡ it.g
    pub text_is : row.rec ≡ pools.record_text it.rec

  pub lacks_of : (p : Path) (n : ℕ) → IsOf row.devs p → Has devs p n → LacksIts p n
  lacks_of p n of has =
      let one = named p of in
      let size : one.n ≡ n = some_same one.n n (sym one.has ∙ has) in
      record {
        it = record {
          q = row.serial;
          g = row.generation;
          rec = gone.rec;
          serial = header_serial row.serial one.n (a p) (header_named p one);
          bears = gone.bears;
          gone = gone.gone;
          lacks = subst (λ (m : ℕ). lacks_record row.serial row.generation gone.rec a (p, m) ≡ true) size one.lacks;
        };
        g_is = refl;
        text_is = rec_is;
      }

  -- a device that lacks it is named
  pub named_of : (p : Path) (n : ℕ) → Has devs p n → lacks_record row.serial row.generation gone.rec a (p, n) ≡ true → IsOf row.devs p
  named_of p n has lacks =
      let place = place_of devs p n has in
      let at = at_filtered (lacks_record row.serial row.generation gone.rec a) devs place.0 (p, n) place.1 lacks in
      record { index = at.0; is = ap (λ (l : List Path). slice_get l at.0) devs_are ∙ at_mapped path_of (filter (lacks_record row.serial row.generation gone.rec a) devs) at.0 (p, n) at.1 }

  pub lies : (p : Path) → IsOf row.devs p → Lies devs p pool_area
  lies p of =
      let one = named p of in
      let large = header_large row.serial one.n (a p) (header_named p one) in
      record { sectors = one.n; has = one.has; some = omega arith; on_it = omega (arith, large); small = omega arith }

  newest_fits : FitsSlot (row.generation, pools.record_text gone.rec)
  newest_fits =
      let one = newest_is row.serial a devs (row.generation, pools.record_text gone.rec) gone.bears.newest in
      let header = candidate_has row.serial one.dev.1 one.place (a one.dev.0) (row.generation, pools.record_text gone.rec) one.found in
      slot_fits one.place (a one.dev.0) (row.generation, pools.record_text gone.rec)
      (kept_found row.serial (read_slot pool_area one.place (a one.dev.0)) (row.generation, pools.record_text gone.rec) (sym (with_header row.serial one.dev.1 one.place (a one.dev.0) header) ∙ one.found))

  pub first : 1 ≤ row.generation
  first = newest_fits.first

  pub last : row.generation ≤ 2 ^ 48
  last = newest_fits.last

  pub fits : 64 + length row.rec ≤ 32768
  fits = subst (λ (l : List ℕ). 64 + length l ≤ 32768) (sym rec_is) newest_fits.short

  pub distinct : AreDistinct row.devs
  distinct i j p at_i at_j = elim (cases_lt i j) [
    | inl lt ↦ absurd (twice i j lt at_i at_j)
    | inr ge ↦ elim (cases_lt j i) [
      | inl lt ↦ absurd (twice j i lt at_j at_i)
      | inr le ↦ omega (arith, ge, le)
    ]
  ]
    where
      twice : (i j : ℕ) → i < j → slice_get row.devs i ≡ Some p → slice_get row.devs j ≡ Some p → ⊥
      twice i j lt at_i at_j =
          let one = mapped_at path_of (filter (lacks_record row.serial row.generation gone.rec a) devs) i p (subst (λ (l : List Path). slice_get l i ≡ Some p) devs_are at_i) in
          let two = mapped_at path_of (filter (lacks_record row.serial row.generation gone.rec a) devs) j p (subst (λ (l : List Path). slice_get l j ≡ Some p) devs_are at_j) in
          let places = place_in (lacks_record row.serial row.generation gone.rec a) devs i j one.0 two.0 one.1 two.1 lt in
          place_once devs places.0 places.1 one.0 two.0 rises places.2 places.3 (one.2 ∙ sym two.2) places.4

module _ (devs : Devices) (a : Image) (rises : Rises devs) (rows : List GoneRow) (are : AreGone devs a rows) where
  pub is_gone : (k : ℕ) (row : GoneRow) → slice_get rows k ≡ Some row → IsGone row.serial devs a row
  is_gone k row at = all_at (λ (r : GoneRow). IsGone r.serial devs a r) rows k row are.each at

  rise_at : (rs : List GoneRow) (i j : ℕ) (x y : GoneRow) → GoneRise rs → slice_get rs i ≡ Some x → slice_get rs j ≡ Some y → i < j → x.serial < y.serial
  rise_at [] i j x y rise at_x at_y lt = absurd (none_some x at_x)
  rise_at (r ∷ rs) zero zero x y rise at_x at_y lt = absurd (omega arith)
  rise_at (r ∷ rs) (suc i) zero x y rise at_x at_y lt = absurd (omega arith)
  rise_at (r ∷ rs) zero (suc j) x y rise at_x at_y lt = subst (λ (z : GoneRow). z.serial < y.serial) (some_same r x at_x) (all_at (λ (other : GoneRow). r.serial < other.serial) rs j y rise.0 at_y)
  rise_at (r ∷ rs) (suc i) (suc j) x y rise at_x at_y lt = rise_at rs i j x y rise.1 at_x at_y (omega (arith, lt))

  -- no device is named by two rows
  pub named_once : (i j : ℕ) (x y : GoneRow) (p : Path) → slice_get rows i ≡ Some x → slice_get rows j ≡ Some y → i < j → IsOf x.devs p → IsOf y.devs p → ⊥
  named_once i j x y p at_x at_y lt of_x of_y =
      let gone_x = is_gone i x at_x in
      let gone_y = is_gone j y at_y in
      let one = named devs a rises x gone_x p of_x in
      let two = named devs a rises y gone_y p of_y in
      let size : two.n ≡ one.n = some_same two.n one.n (sym two.has ∙ one.has) in
      let same = one_header x.serial y.serial one.n (a p) (header_named devs a rises x gone_x p one) (subst (λ (m : ℕ). has_header y.serial m (a p) ≡ true) size (header_named devs a rises y gone_y p two)) in
      let less = rise_at rows i j x y are.rise at_x at_y lt in
      absurd (omega (arith, same, less))

  -- each device that lacks a record is named by its row
  pub lacking_named : (p : Path) (n : ℕ) → Has devs p n → (l : Lacks devs a (p, n)) → (k : ℕ) × (row : GoneRow) × (slice_get rows k ≡ Some row) × IsOf row.devs p × (row.generation ≡ l.g) × (row.rec ≡ pools.record_text l.rec)
  lacking_named p n has l =
      let told = are.all l.q l.g l.rec l.serial l.bears l.gone in
      let gone = is_gone told.index told.row told.of in
      let same = one_newest l.q devs a told.row.generation l.g gone.rec l.rec (subst (λ (q : ℕ). Bears q devs told.row.generation gone.rec a) told.serial gone.bears) l.bears in
      let lacks : lacks_record told.row.serial told.row.generation gone.rec a (p, n) ≡ true = (λ i. lacks_record (told.serial i) (same.0 i) (same.1 i) a (p, n)) ∙ l.lacks in
      (told.index, told.row, told.of, named_of devs a rises told.row gone p n has lacks, same.0, rec_is devs a rises told.row gone ∙ ap pools.record_text same.1)
