-- the state that a rack's devices stand for
use Rattle.std.proofs.Common.{◌≡◌, inl, inr, ℕ, suc, ◌%◌, ◌<◌, ◌≤◌, ◌^◌, List, [], ◌∷◌, Bool, true, false, cond, not, ◌||◌, bytes_eq, map, Option, Some, None, unwrap_or, refl, ap, sym, subst, ◌∙◌, arith}
use Rattle.std.specs.Prelude.{slice_get, is_none, is_some, nat_eq, nat_le, max, option_map}
use Rattle.std.specs.Ordering.{nat_cmp}
use Rattle.std.specs.Cmp.Lexicographic.{slice_cmp}
use Rattle.std.specs.List.{AllByRecursion}
use Rattle.std.specs.List.Sorted.{IsStrictlySortedBy}
use Rattle.std.proofs.lemmas.List.{length-map}
use Rattle.st_limits.specs.declared.TheConstants.{MAX_DEVICE_SECTORS, MAX_POOL_SERIAL}
use Rattle.st_units.specs.declared.rows.DevRow.{DevRow}
use Rattle.st_fields.specs.Slot.{Found}
use Rattle.st_fields.proofs.Slots.{sealed_of-is}
use Rattle.st_poolrec.specs.Record as pools
use Rattle.st_flexlog.specs.declared.state.FlexState.{FlexState}
use Rattle.st_flexat.specs.FlexAt.{FlexAt}
use Rattle.st_deltalog.specs.Log.{serial_in}
use Rattle.st_deltalog.proofs.Restart.{log_both}
use Rattle.st_commit.specs.Standing.{keep}
use Rattle.st_header.specs.Header.{header_of}
use Rattle.st_slots.specs.Reading.{bytes_at, of_place, read_any, read_slot}
use Rattle.st_rack.specs.Story.{Content}
use Rattle.st_rack.specs.Device.{Path, Image, cells}
use Rattle.st_rack.specs.Calls.{Devices, Has, IsFit, Rises, path_in, sectors_of}
use Rattle.st_model.specs.declared.state.EngineState.{EngineState}
use Rattle.st_model.specs.declared.state.PoolState.{PoolState}
use Rattle.st_model.specs.Look as look
use Rattle.st_model.specs.Look.{Text, first_absent, flight_of, gives_name, holds, is_called, uses}
use Rattle.st_model.specs.Valid.{Apart, AreRackRows, AreThere, IsFlight, IsOnIfAny, IsRow, IsValid}
use Rattle.st_model.specs.ValidPool.{EachPair, IsValidPool}
use Rattle.st_judge.proofs.Placed.{has_at}
use Rattle.st_image.specs.Looks.{flex_area, has_header, is_serial, pool_area, slot_on}
use Rattle.st_image.specs.Bears.{Bears, Candidate, HasRow, candidate, newest_over}
use Rattle.st_image.specs.Kept.{as_pair}
use Rattle.st_image.specs.Rack.{NamesDiffer, RackStands, greatest_on, greatest_over, slot_serial}
use Rattle.st_image.specs.Stands.{StandsFor, is_on, missing}
use Rattle.st_image.specs.Survivors.{row_of}
use Rattle.st_flexsound.specs.Sound.{IsSound, SaysSound}
use Rattle.st_flexsound.proofs.Lists.{All-from, All-map, All-weaker, pair_at}
use Rattle.st_parting.proofs.Newest.{newest_is, some_same, none_some}
use Rattle.st_parting.proofs.Headers.{candidate_has, header_is, header_serial, other_header, with_header}
use Rattle.st_parting.proofs.Rows.{same_path}
use Rattle.st_parting.proofs.Known.{Uses}
use Rattle.st_parting.proofs.Part.{known_uses}
use Rattle.st_parting.proofs.Finding.{greatest_at, own_found, rise_at, row_found, serials_differ, uses_rows}
use Rattle.st_sound.proofs.Lists.{eq_true, not_both, or_true}
use Rattle.st_sound.proofs.Pool.{devices_small, halted, lacks}

-- ---- generations

is_kept : (p : ℕ) (o : Found) (x : ℕ × List ℕ) → keep p o ≡ Some x → o ≡ Some x
is_kept p None x e = absurd (none_some x e)
is_kept p (Some y) x e = by (nat_eq (serial_in y.1) p) e
  where
    by : (b : Bool) → cond b (Some y) None ≡ Some x → Some y ≡ Some x
    by true e = e
    by false e = absurd (none_some x e)

is_of_place : (place : ℕ) (o : Found) (x : ℕ × List ℕ) → of_place place o ≡ Some x → o ≡ Some x
is_of_place place None x e = absurd (none_some x e)
is_of_place place (Some y) x e = by (nat_eq (y.0 % 2) place) e
  where
    by : (b : Bool) → cond b (Some y) None ≡ Some x → Some y ≡ Some x
    by true e = e
    by false e = absurd (none_some x e)

generation_low : (p : ℕ) (devs : Devices) (c : Image) (x : ℕ × List ℕ) → Candidate p devs c x → x.0 ≤ 2 ^ 48
generation_low p devs c x one =
    let header = candidate_has p one.dev.1 one.place (c one.dev.0) x one.found in
    let slot = is_kept p (read_slot pool_area one.place (c one.dev.0)) x (sym (with_header p one.dev.1 one.place (c one.dev.0) header) ∙ one.found) in
    (sealed_of-is pool_area.magic (bytes_at pool_area one.place (c one.dev.0)) x (is_of_place one.place (read_any pool_area one.place (c one.dev.0)) x slot)).until

-- ---- serials

header_low : (sectors : ℕ) (f : Content) (o : Option ℕ) → header_of sectors (cells f 0 8192) ≡ o → unwrap_or o 0 ≤ MAX_POOL_SERIAL
header_low sectors f None e = omega arith
header_low sectors f (Some n) e = (header_serial n sectors f (ap (is_serial n) e ∙ eq_true n n refl)).until

slot_low : (o : Found) → slot_serial o ≤ MAX_POOL_SERIAL
slot_low None = omega arith
slot_low (Some x) = by (nat_le (serial_in x.1) MAX_POOL_SERIAL) refl
  where
    by : (b : Bool) → nat_le (serial_in x.1) MAX_POOL_SERIAL ≡ b → cond b (serial_in x.1) 0 ≤ MAX_POOL_SERIAL
    by true e = Rattle.st_sound.proofs.Lists.le_of (serial_in x.1) MAX_POOL_SERIAL e
    by false e = omega arith

most : (a b n : ℕ) → a ≤ n → b ≤ n → max a b ≤ n
most a b n l r = omega (arith, l, r)

first_most : (a b : ℕ) → a ≤ max a b
first_most a b = omega arith

on_low : (sectors : ℕ) (f : Content) → greatest_on sectors f ≤ MAX_POOL_SERIAL
on_low sectors f =
    most (unwrap_or (header_of sectors (cells f 0 8192)) 0) (max (slot_serial (slot_on sectors 0 f)) (slot_serial (slot_on sectors 1 f))) MAX_POOL_SERIAL
    (header_low sectors f (header_of sectors (cells f 0 8192)) refl)
    (most (slot_serial (slot_on sectors 0 f)) (slot_serial (slot_on sectors 1 f)) MAX_POOL_SERIAL (slot_low (slot_on sectors 0 f)) (slot_low (slot_on sectors 1 f)))

over_low : (devs : Devices) (c : Image) → greatest_over devs c ≤ MAX_POOL_SERIAL
over_low [] c = omega arith
over_low (d ∷ ds) c = most (greatest_on d.1 (c d.0)) (greatest_over ds c) MAX_POOL_SERIAL (on_low d.1 (c d.0)) (over_low ds c)

-- ---- the rows of the rack

found_row : (devs : Devices) (path : Path) → option_map (λ (row : DevRow). row.sectors) (look.row_of path (map row_of devs)) ≡ sectors_of devs path
found_row [] path = refl
found_row (d ∷ ds) path = by (bytes_eq d.0 path) (found_row ds path)
  where
    by : (b : Bool) → option_map (λ (row : DevRow). row.sectors) (look.row_of path (map row_of ds)) ≡ sectors_of ds path → option_map (λ (row : DevRow). row.sectors) (cond b (Some (row_of d)) (look.row_of path (map row_of ds))) ≡ cond b (Some d.1) (sectors_of ds path)
    by true e = refl
    by false e = e

none_row : (devs : Devices) (path : Path) → is_none (look.row_of path (map row_of devs)) ≡ not (is_on path devs)
none_row [] path = refl
none_row (d ∷ ds) path = by (bytes_eq d.0 path) (none_row ds path)
  where
    by : (b : Bool) → is_none (look.row_of path (map row_of ds)) ≡ not (is_on path ds) → is_none (cond b (Some (row_of d)) (look.row_of path (map row_of ds))) ≡ not (b || is_on path ds)
    by true e = refl
    by false e = e

absent : (devs : Devices) (rows : List DevRow) → first_absent (map (λ (row : DevRow). row.path) rows) (map row_of devs) ≡ missing rows devs
absent devs [] = refl
absent devs (row ∷ rows) = ap (λ (b : Bool). cond b (Some row.path) (first_absent (map (λ (row : DevRow). row.path) rows) (map row_of devs))) (none_row devs row.path) ∙ by (is_on row.path devs) (absent devs rows)
  where
    by : (b : Bool) → first_absent (map (λ (row : DevRow). row.path) rows) (map row_of devs) ≡ missing rows devs → cond (not b) (Some row.path) (first_absent (map (λ (row : DevRow). row.path) rows) (map row_of devs)) ≡ cond b (missing rows devs) (Some row.path)
    by true e = e
    by false e = refl

paths_same : (devs : Devices) → map path_in devs ≡ map (λ (row : DevRow). row.path) (map row_of devs)
paths_same [] = refl
paths_same (d ∷ ds) = ap (λ (l : List Path). d.0 ∷ l) (paths_same ds)

has_some : (o : Option DevRow) → is_some o ≡ true → (n : ℕ) × (option_map (λ (row : DevRow). row.sectors) o ≡ Some n)
has_some None e = absurd cc
has_some (Some row) e = (row.sectors, refl)

rack_rows : (devs : Devices) → Rises devs → IsFit devs → AreRackRows (map row_of devs)
rack_rows devs rises fit = record {
  few = let size = length-map devs row_of in let few = fit.few in omega (arith, size, few);
  small = All-map (λ (row : DevRow). row.sectors ≤ MAX_DEVICE_SECTORS) row_of devs (All-from (λ (d : Path × ℕ). d.1 ≤ MAX_DEVICE_SECTORS) devs (λ k d at. fit.small d.0 d.1 (has_at devs k d rises at)));
  rising = subst (IsStrictlySortedBy (slice_cmp nat_cmp)) (paths_same devs) rises;
}

pairs_by : {X : Type 0} (R : X → X → Type 0) (xs : List X) → ((i j : ℕ) (a b : X) → i < j → slice_get xs i ≡ Some a → slice_get xs j ≡ Some b → R a b) → EachPair R xs
pairs_by R [] f = tt
pairs_by R (x ∷ xs) f = (All-from (R x) xs (λ k y at. f 0 (suc k) x y (omega arith) refl at), pairs_by R xs (λ i j a b less at_a at_b. f (suc i) (suc j) a b (omega (arith, less)) at_a at_b))

names_pairs : (ps : List PoolState) → NamesDiffer ps → EachPair (λ (p q : PoolState). p.name ≡ q.name → ⊥) ps
names_pairs [] n = tt
names_pairs (p ∷ ps) n = (n.0, names_pairs ps n.1)

module _ (says : SaysSound) (devs : Devices) (c : Image) (rises : Rises devs) where
  sound_at : (p g : ℕ) (f : Content) (st : FlexState) → FlexAt flex_area p g f st → IsSound g st
  sound_at p g f st at = subst (λ (n : ℕ). IsSound n st) (sym (log_both flex_area p g f at.log at.is).0.counted) (says at.log.start at.log.body at.log.deltas st at.says)

  -- one pool, of which all is known that has to do with others
  valid_one : (next : ℕ) (pool : PoolState) → pool.serial < next → 1 ≤ pool.serial → StandsFor pool.serial devs c (Some pool) → IsValidPool next pool
  valid_one next pool below from (inl one) = subst (IsValidPool next) (sym one.4) (record {
    serial = subst (λ (q : PoolState). q.serial < next) one.4 below;
    from_one = subst (λ (q : PoolState). 1 ≤ q.serial) one.4 from;
    devices = devices_small one.1 one.3.bears.record_of.is;
    state = halted one.1 one.3.bears.record_of.is one.0 one.2 c
        (sound_at pool.serial one.0 (c (Rattle.st_image.specs.Bears.first_of one.1)) one.2 one.3.bears.flexed)
        (generation_low pool.serial devs c (one.0, pools.record_text one.1) (newest_is pool.serial c devs (one.0, pools.record_text one.1) one.3.bears.record_of.newest)) one.3.places;
  })
  valid_one next pool below from (inr one) = subst (IsValidPool next) (sym one.4) (record {
    serial = subst (λ (q : PoolState). q.serial < next) one.4 below;
    from_one = subst (λ (q : PoolState). 1 ≤ q.serial) one.4 from;
    devices = devices_small one.1 one.3.bears.is;
    state = lacks one.1 one.3.bears.is devs one.2 one.3.lacks;
  })

  there_one : (pool : PoolState) → StandsFor pool.serial devs c (Some pool) → AreThere (map row_of devs) pool pool.mode
  there_one pool (inl one) = subst (λ (q : PoolState). AreThere (map row_of devs) q q.mode) (sym one.4)
      (All-weaker (HasRow pool.serial devs c) (IsRow (map row_of devs)) one.1.devs (λ row has. found_row devs row.path ∙ has_at devs has.index (row.path, row.sectors) rises has.of) one.3.bears.rows)
  there_one pool (inr one) = subst (λ (q : PoolState). AreThere (map row_of devs) q q.mode) (sym one.4) (absent devs one.1.devs ∙ one.3.lacks)

  module _ (e : EngineState) (stands : RackStands devs c e) where
    stands_at : (k : ℕ) (pool : PoolState) → slice_get e.pools k ≡ Some pool → StandsFor pool.serial devs c (Some pool)
    stands_at k pool at =
        let own = own_found e.pools k pool stands.serials at in
        subst (λ (o : Option PoolState). StandsFor pool.serial devs c o) own.1 (stands.each pool.serial own.0)

    know : (k : ℕ) (pool : PoolState) → slice_get e.pools k ≡ Some pool → Uses pool.serial pool devs c rises
    know k pool at = known_uses pool.serial devs c rises pool (stands_at k pool at)

    serial_below : (k : ℕ) (pool : PoolState) → slice_get e.pools k ≡ Some pool → pool.serial < e.next
    serial_below k pool at =
        let own = know k pool at in
        let one = newest_is pool.serial c devs (own.g, pools.record_text own.rec) own.bears.newest in
        let header = candidate_has pool.serial one.dev.1 one.place (c one.dev.0) (own.g, pools.record_text own.rec) one.found in
        let is : unwrap_or (header_of one.dev.1 (cells (c one.dev.0) 0 8192)) 0 ≡ pool.serial = ap (λ (o : Option ℕ). unwrap_or o 0) (header_is pool.serial one.dev.1 (c one.dev.0) header) in
        let low = first_most (unwrap_or (header_of one.dev.1 (cells (c one.dev.0) 0 8192)) 0) (max (slot_serial (slot_on one.dev.1 0 (c one.dev.0))) (slot_serial (slot_on one.dev.1 1 (c one.dev.0)))) in
        let more = greatest_at devs c one.index one.dev one.of in
        let next = stands.next in
        omega (arith, is, low, more, next)

    valid_pools : AllByRecursion (IsValidPool e.next) e.pools
    valid_pools = All-from (IsValidPool e.next) e.pools (λ k pool at. valid_one e.next pool (serial_below k pool at) (own_found e.pools k pool stands.serials at).0.from (stands_at k pool at))

    -- the device that a pool uses has its header
    used_header : (k : ℕ) (pool : PoolState) → slice_get e.pools k ≡ Some pool → (path : Path) (n : ℕ) → Has devs path n → uses path pool ≡ true → has_header pool.serial n (c path) ≡ true
    used_header k pool at path n has used =
        let own = know k pool at in
        let found = row_found pool.devices path (sym (uses_rows path pool own.flight) ∙ used) in
        let here : slice_get own.rec.devs found.0 ≡ Some found.1 = ap (λ (l : List DevRow). slice_get l found.0) (sym own.rows) ∙ found.2 in
        let has_it : Has devs found.1.path n = subst (λ (q : Path). Has devs q n) (sym found.3) has in
        let placed = own.are.all found.0 found.1 here n has_it in
        let row = own.are.each placed.0 (as_pair found.1) placed.1 in
        let path_is : row.1.path ≡ path = ap (λ (d : Path × ℕ). d.0) row.3 ∙ found.3 in
        let size : row.1.sectors ≡ n = some_same row.1.sectors n (sym (has_at devs row.4.index (row.1.path, row.1.sectors) rises row.4.of) ∙ ap (sectors_of devs) path_is ∙ has) in
        (λ i. has_header pool.serial (sym size i) (c (sym path_is i))) ∙ row.4.header

    called : (k : ℕ) (pool : PoolState) → slice_get e.pools k ≡ Some pool → (name : Text) → holds name pool ≡ true → pool.name ≡ name
    called k pool at name held = elim (or_true (is_called name pool) (gives_name name (flight_of pool.mode)) held) [
      | inl own ↦ same_path pool.name name own
      | inr given ↦ absurd (not_both (gives_name name (flight_of pool.mode)) given (ap (gives_name name) (know k pool at).flight))
    ]

    apart : EachPair (Apart (map row_of devs)) e.pools
    apart = pairs_by (Apart (map row_of devs)) e.pools (λ i j a b less at_a at_b. record {
      names = λ name held_a held_b. pair_at (λ (p q : PoolState). p.name ≡ q.name → ⊥) e.pools i j a b (names_pairs e.pools stands.names) less at_a at_b (called i a at_a name held_a ∙ sym (called j b at_b name held_b));
      serials = rise_at e.pools i j a b stands.serials at_a at_b less;
      devices = λ path on used_a used_b. (
          let some = has_some (look.row_of path (map row_of devs)) on in
          let has : Has devs path some.0 = sym (found_row devs path) ∙ some.1 in
          not_both (has_header b.serial some.0 (c path)) (used_header j b at_b path some.0 has used_b)
          (other_header a.serial b.serial some.0 (c path) (used_header i a at_a path some.0 has used_a) (serials_differ e.pools i j a b stands.serials at_a at_b (λ same. omega (arith, less, same)))));
    })

    pub valid_state : IsFit devs → IsValid e
    valid_state fit = record {
      from_one = let next = stands.next in omega (arith, next);
      bounded = let next = stands.next in let low = over_low devs c in omega (arith, next, low);
      rack = subst AreRackRows (sym stands.devices) (rack_rows devs rises fit);
      count = stands.few;
      pools = valid_pools;
      there = All-from (λ (p : PoolState). AreThere e.devices p p.mode) e.pools (λ k pool at. subst (λ (l : List DevRow). AreThere l pool pool.mode) (sym stands.devices) (there_one pool (stands_at k pool at)));
      on = All-from (λ (p : PoolState). IsOnIfAny p.name (flight_of p.mode)) e.pools (λ k pool at. subst (IsOnIfAny pool.name) (sym (know k pool at).flight) tt);
      flights = All-from (λ (p : PoolState). IsFlight e p (flight_of p.mode)) e.pools (λ k pool at. subst (IsFlight e pool) (sym (know k pool at).flight) tt);
      apart = subst (λ (l : List DevRow). EachPair (Apart l) e.pools) (sym stands.devices) apart;
    }

pub valid : SaysSound → (devs : Devices) (c : Image) (e : EngineState) → RackStands devs c e → Rises devs → IsFit devs → IsValid e
valid says devs c e stands rises fit = valid_state says devs c rises e stands fit
