-- What a rack is divided into keeps the table of the state that was found on it.
use Rattle.std.proofs.Common.{◌≡◌, ◌⊎◌, inl, inr, ℕ, zero, suc, ◌≤◌, Bool, true, false, ◌||◌, cond, List, [], ◌∷◌, length, map, Option, Some, None, refl, sym, ◌∙◌, ap, subst, arith}
use Rattle.std.specs.Prelude.{◌==◌, is_some}
use Rattle.std.specs.Option.{option_map}
use Rattle.std.specs.List.{slice_get, list_any, IsDistinct}
use Rattle.std.proofs.lemmas.Option.{slice_get_within}
use Rattle.st_units.specs.declared.rows.DevRow.{DevRow}
use Rattle.st_model.specs.declared.state.EngineState.{EngineState}
use Rattle.st_model.specs.declared.state.PoolState.{PoolState}
use Rattle.st_model.specs.Look.{pool_using, row_of, uses}
use Rattle.st_model.specs.Parts.{is_used, known, table_of}
use Rattle.st_model.specs.Shown.{halted_pools}
use Rattle.st_rack.specs.Device.{Path, State, held}
use Rattle.st_rack.specs.Calls.{Devices, Has, names, sectors_of}
use Rattle.st_deltalog.specs.Bearing.{IsSettled}
use Rattle.st_commit.specs.Ready.{IsOf}
use Rattle.st_image.specs.Bears.{paths}
use Rattle.st_assemble.specs.Found as found_rows
use Rattle.st_parting.specs.Found.{AllFinished, IsFoundOn}
use Rattle.st_parting.specs.Free.{IsFreeIn}
use Rattle.st_parting.specs.Own.{IsPart, KeepsOwn, used_by}
use Rattle.st_parting.proofs.Newest.{none_some, some_same}
use Rattle.st_parting.proofs.Rows.{at_mapped, at_named, not_both}
use Rattle.st_parting.proofs.Parting.{keeps_own, know, lie_apart, used_so}
use Rattle.st_parting.proofs.Freeing.{is_free}
use Rattle.st_pool.specs.Halts.{HaltedView, Halts, IsAs, IsQuiet}
use Rattle.st_pool.specs.declared.flight.Flight.{Flight}
use Rattle.st_pool.specs.View.{now}
use Rattle.st_dividing.specs.Divided.{AreTold, Divides, found_as, is_taken, path_of_row, present_of}
use Rattle.st_dividing.proofs.Present.{named_present, present_named}
use Rattle.st_board.specs.Free.{AreFreeFor, AreTheFree, IsFreeFor}
use Rattle.st_board.specs.Holds.{AreHalted, HasOthers, KeepsTable, halted_at, stopped_at}
use Rattle.st_board.proofs.Present.{path_of_rows}
use Rattle.st_boarding.proofs.Lists.{all_halted, any_known, fits_all, item_at, known_any, length_map, none_found, pairs_all, rise_distinct, rows_same, serial_found, used_rows}
use Rattle.st_boarding.proofs.Rows.{list_is}

same_tests : (a b : Bool) → (a ≡ true → b ≡ true) → (b ≡ true → a ≡ true) → a ≡ b
same_tests true b to from = sym (to refl)
same_tests false true to from = from refl
same_tests false false to from = refl

not_true : (b : Bool) → (b ≡ true → ⊥) → b ≡ false
not_true true never = absurd (never refl)
not_true false never = refl

or_true : (a b : Bool) → (a || b) ≡ true → (a ≡ true) ⊎ (b ≡ true)
or_true true b e = inl refl
or_true false b e = inr e

-- a device that is taken is one of a pool
taken_at : {D : Type 0} (parts : List (HaltedView D)) (p : Path) → is_taken parts p ≡ true → (k : ℕ) × (h : HaltedView D) × (slice_get parts k ≡ Some h) × (names h.devs p ≡ true)
taken_at [] p e = absurd (cc)
taken_at (h ∷ hs) p e = elim (or_true (names h.devs p) (is_taken hs p) e) [
  | inl here ↦ (0, h, refl, here)
  | inr later ↦ let rest = taken_at hs p later in (suc rest.0, rest.1, rest.2, rest.3)
]

module _ {D : Type 0} (devs : D → Devices) (moment : D → ℕ) (state_at : D → ℕ → State) (faults spare : D → ℕ) (old rest : D) (e later : EngineState) (parts : List (HaltedView D))
    (found : IsFoundOn (devs old) (now moment state_at old) e) (finished : AllFinished (devs old) (held (now moment state_at old))) (pools_same : later.pools ≡ e.pools) (devices_same : later.devices ≡ e.devices) (next_from : e.next ≤ later.next)
    (divides : Divides devs moment state_at faults spare old rest parts) (told : AreTold devs moment state_at faults spare old (map found_rows.row_of e.pools) parts) where
  size : length parts ≡ length e.pools
  size = told.count ∙ length_map found_rows.row_of e.pools

  part_is : (k : ℕ) (pool : PoolState) (h : HaltedView D) → slice_get e.pools k ≡ Some pool → slice_get parts k ≡ Some h → h ≡ found_as (devs old) (found_rows.row_of pool) h.rack
  part_is k pool h at_pool at_h = told.each k (found_rows.row_of pool) h (at_mapped found_rows.row_of e.pools k pool at_pool) at_h

  part_at : (k : ℕ) (pool : PoolState) → slice_get e.pools k ≡ Some pool → (h : HaltedView D) × (slice_get parts k ≡ Some h)
  part_at k pool at = item_at parts k (let lt = slice_get_within e.pools k pool at in omega (arith, lt, size))

  pool_at : (k : ℕ) (h : HaltedView D) → slice_get parts k ≡ Some h → (pool : PoolState) × (slice_get e.pools k ≡ Some pool)
  pool_at k h at = item_at e.pools k (let lt = slice_get_within parts k h at in omega (arith, lt, size))

  devs_are : (k : ℕ) (pool : PoolState) (h : HaltedView D) → slice_get e.pools k ≡ Some pool → slice_get parts k ≡ Some h → h.devs ≡ used_by pool (devs old)
  devs_are k pool h at_pool at_h = ap (λ (x : HaltedView D). x.devs) (part_is k pool h at_pool at_h) ∙ sym (list_is (devs old) (now moment state_at old) e found k pool at_pool)

  halts : (k : ℕ) (pool : PoolState) (h : HaltedView D) → slice_get e.pools k ≡ Some pool → slice_get parts k ≡ Some h → Halts devs moment state_at pool h
  halts k pool h at_pool at_h = record {
    idle = keeps.idle;
    serial = ap (λ (x : HaltedView D). x.serial) (part_is k pool h at_pool at_h);
    on = ap paths keeps.same ∙ sym (devs_are k pool h at_pool at_h);
    own = record { there = keeps.there; alone = keeps.alone };
    is_as = subst (λ (f : Option Flight). IsAs pool (devs h.rack) h.devs (now moment state_at h.rack) f) (sym (ap (λ (x : HaltedView D). x.flight) (part_is k pool h at_pool at_h))) quiet;
    kept = keeps.kept;
  }
    where
      part : IsPart h.devs (devs old) (now moment state_at old) (devs h.rack) (now moment state_at h.rack)
      part = divides.each k h at_h

      keeps : KeepsOwn pool (devs old) (devs h.rack) (now moment state_at h.rack)
      keeps = keeps_own (devs old) (now moment state_at old) e found k pool at_pool (devs h.rack) (now moment state_at h.rack)
          (subst (λ (l : List Path). IsPart l (devs old) (now moment state_at old) (devs h.rack) (now moment state_at h.rack)) (devs_are k pool h at_pool at_h) part)

      settled : (d : Path) → IsOf h.devs d → IsSettled (now moment state_at h.rack d)
      settled d of =
          let named : names h.devs d ≡ true = at_named h.devs of.index d of.is in
          let has = (lie_apart (devs old) (now moment state_at old) e found).there k pool at_pool d (ap (λ (l : List Path). names l d) (sym (devs_are k pool h at_pool at_h)) ∙ named) in
          subst IsSettled (sym (part.states d named)) (found.settled d has.0 has.1)

      quiet : IsQuiet pool (devs h.rack) h.devs (now moment state_at h.rack)
      quiet = record { flight = keeps.flight; settled = settled; stands = keeps.stands }

  stopped_are : (table_of later).stopped ≡ e.pools
  stopped_are = ap halted_pools pools_same ∙ all_halted e.pools (λ k pool at. (know (devs old) (now moment state_at old) e found k pool at).idle)

  serials_are : map (λ (h : HaltedView D). h.serial) parts ≡ map (λ (q : PoolState). q.serial) e.pools
  serials_are = by parts e.pools size (λ k pool h at_pool at_h. ap (λ (x : HaltedView D). x.serial) (part_is k pool h at_pool at_h))
    where
      by : (hs : List (HaltedView D)) (ps : List PoolState) → length hs ≡ length ps → ((k : ℕ) (pool : PoolState) (h : HaltedView D) → slice_get ps k ≡ Some pool → slice_get hs k ≡ Some h → h.serial ≡ pool.serial) → map (λ (h : HaltedView D). h.serial) hs ≡ map (λ (q : PoolState). q.serial) ps
      by [] [] same each = refl
      by [] (p ∷ ps) same each = absurd (omega (arith, same))
      by (h ∷ hs) [] same each = absurd (omega (arith, same))
      by (h ∷ hs) (p ∷ ps) same each =
          let here : h.serial ≡ p.serial = each 0 p h refl refl in
          let tail = by hs ps (omega (arith, same)) (λ k pool x at_pool at_x. each (suc k) pool x at_pool at_x) in
          λ i. here i ∷ tail i

  are_halted : AreHalted devs moment state_at (table_of later).stopped parts
  are_halted = subst (λ (l : List PoolState). AreHalted devs moment state_at l parts) (sym stopped_are) (record {
    each = λ q. fits_all devs moment state_at q e.pools parts size halts;
    once = subst (IsDistinct (λ (a b : ℕ). a == b)) (sym serials_are) (rise_distinct e.pools found.stands.serials);
    count = size;
  })

  -- a device of the rack is with a pool just where a known pool uses it
  taken_is : (p : Path) (n : ℕ) → Has (devs old) p n → is_taken parts p ≡ list_any (is_used p) (table_of later).names
  taken_is p n has = same_tests (is_taken parts p) (list_any (is_used p) (table_of later).names) to from
    where
      rows_used : (k : ℕ) (pool : PoolState) → slice_get e.pools k ≡ Some pool → is_used p (known pool) ≡ names (map path_of_row pool.devices) p
      rows_used k pool at = used_rows p pool (know (devs old) (now moment state_at old) e found k pool at).flight

      to : is_taken parts p ≡ true → list_any (is_used p) (table_of later).names ≡ true
      to taken =
          let one = taken_at parts p taken in
          let pool = pool_at one.0 one.1 one.2 in
          let named : names (present_of (devs old) pool.0.devices) p ≡ true = ap (λ (x : HaltedView D). names x.devs p) (sym (part_is one.0 pool.0 one.1 pool.1 one.2)) ∙ one.3 in
          let used : is_used p (known pool.0) ≡ true = rows_used one.0 pool.0 pool.1 ∙ (named_present (devs old) pool.0.devices p named).0 in
          subst (λ (l : List PoolState). list_any (is_used p) (map known l) ≡ true) (sym pools_same) (known_any (is_used p) e.pools one.0 pool.0 pool.1 used)

      from : list_any (is_used p) (table_of later).names ≡ true → is_taken parts p ≡ true
      from any =
          let one = any_known (is_used p) e.pools (subst (λ (l : List PoolState). list_any (is_used p) (map known l) ≡ true) pools_same any) in
          let h = part_at one.0 one.1 one.2 in
          let named : names (present_of (devs old) one.1.devices) p ≡ true = present_named (devs old) one.1.devices p (sym (rows_used one.0 one.1 one.2) ∙ one.3) (ap is_some has) in
          taken_from parts one.0 h.0 h.1 (ap (λ (x : HaltedView D). names x.devs p) (part_is one.0 one.1 h.0 one.2 h.1) ∙ named)
        where
          or_second : (a b : Bool) → b ≡ true → (a || b) ≡ true
          or_second true b is = refl
          or_second false b is = is

          taken_from : (hs : List (HaltedView D)) (k : ℕ) (h : HaltedView D) → slice_get hs k ≡ Some h → names h.devs p ≡ true → is_taken hs p ≡ true
          taken_from [] k h at is = absurd (none_some h at)
          taken_from (x ∷ xs) zero h at is = ap (λ (b : Bool). b || is_taken xs p) (ap (λ (y : HaltedView D). names y.devs p) (some_same x h at) ∙ is)
          taken_from (x ∷ xs) (suc k) h at is = or_second (names x.devs p) (is_taken xs p) (taken_from xs k h at is)

  devices_are : (p : Path) → option_map (λ (row : DevRow). row.sectors) (row_of p (table_of later).devices) ≡ sectors_of (devs old) p
  devices_are p = ap (λ (l : List DevRow). option_map (λ (row : DevRow). row.sectors) (row_of p l)) (devices_same ∙ found.stands.devices) ∙ rows_same (devs old) p

  the_free : AreTheFree (table_of later) (devs rest)
  the_free p = divides.rest_devs p ∙ by (sectors_of (devs old) p) refl ∙ ap (λ (o : Option ℕ). cond (list_any (is_used p) (table_of later).names) None o) (sym (devices_are p))
    where
      nothing : (b : Bool) (o : Option ℕ) → o ≡ None → cond b None o ≡ None
      nothing true o is = refl
      nothing false o is = is

      by : (o : Option ℕ) → sectors_of (devs old) p ≡ o → cond (is_taken parts p) None (sectors_of (devs old) p) ≡ cond (list_any (is_used p) (table_of later).names) None (sectors_of (devs old) p)
      by None is = nothing (is_taken parts p) (sectors_of (devs old) p) is ∙ sym (nothing (list_any (is_used p) (table_of later).names) (sectors_of (devs old) p) is)
      by (Some n) is = ap (λ (b : Bool). cond b None (sectors_of (devs old) p)) (taken_is p n is)

  others_of : (k : ℕ) (pool : PoolState) (h : HaltedView D) → slice_get e.pools k ≡ Some pool → slice_get parts k ≡ Some h → HasOthers devs (table_of later).devices (Some pool) (Some h)
  others_of k pool h at_pool at_h missing is d =
      (divides.each k h at_h).devices d ∙ ap (λ (b : Bool). cond b (sectors_of (devs old) d) None) named ∙ by (sectors_of (devs old) d) refl
      ∙ (λ i. cond (rows i) (sym (devices_are d) i) None)
    where
      named : names h.devs d ≡ names (present_of (devs old) pool.devices) d
      named = ap (λ (x : HaltedView D). names x.devs d) (part_is k pool h at_pool at_h)

      rows : names (map path_of_row pool.devices) d ≡ is_some (row_of d pool.devices)
      rows = path_of_rows pool.devices d

      nothing : (a b : Bool) (o : Option ℕ) → o ≡ None → cond a o None ≡ cond b o None
      nothing true true o is = refl
      nothing true false o is = is
      nothing false true o is = sym is
      nothing false false o is = refl

      by : (o : Option ℕ) → sectors_of (devs old) d ≡ o → cond (names (present_of (devs old) pool.devices) d) (sectors_of (devs old) d) None ≡ cond (names (map path_of_row pool.devices) d) (sectors_of (devs old) d) None
      by None is = nothing (names (present_of (devs old) pool.devices) d) (names (map path_of_row pool.devices) d) (sectors_of (devs old) d) is
      by (Some n) is = ap (λ (b : Bool). cond b (sectors_of (devs old) d) None)
          (same_tests (names (present_of (devs old) pool.devices) d) (names (map path_of_row pool.devices) d) (λ on. (named_present (devs old) pool.devices d on).0) (λ on. present_named (devs old) pool.devices d on (ap is_some is)))

  pub lacks_others : (q : ℕ) → HasOthers devs (table_of later).devices (stopped_at q (table_of later).stopped) (halted_at q parts)
  lacks_others q = subst (λ (l : List PoolState). HasOthers devs (table_of later).devices (stopped_at q l) (halted_at q parts)) (sym stopped_are)
      (pairs_all (λ (o : Option PoolState) (x : Option (HaltedView D)). HasOthers devs (table_of later).devices o x) tt q e.pools parts size
      (λ k pool h at_pool at_h. (ap (λ (x : HaltedView D). x.serial) (part_is k pool h at_pool at_h), others_of k pool h at_pool at_h)))

  -- a device of the rest is free
  left : (p : Path) (n : ℕ) → Has (devs rest) p n → is_taken parts p ≡ false
  left p n has = not_true (is_taken parts p) (λ taken. none_some n (sym (divides.rest_devs p ∙ ap (λ (b : Bool). cond b None (sectors_of (devs old) p)) taken) ∙ has))

  unused : (p : Path) (n : ℕ) → Has (devs old) p n → is_taken parts p ≡ false → pool_using p e.pools ≡ None
  unused p n has free = none_found (uses p) e.pools (λ k pool at. not_true (uses p pool) (λ used. (
      let h = part_at k pool at in
      let named : names (used_by pool (devs old)) p ≡ true = sym (used_so (devs old) (now moment state_at old) e found k pool at p n has) ∙ used in
      not_both (is_taken parts p) (sym (sym (taken_is p n has)) ∙ by k pool at h.0 h.1 named) free)))
    where
      by : (k : ℕ) (pool : PoolState) → slice_get e.pools k ≡ Some pool → (h : HaltedView D) → slice_get parts k ≡ Some h → names (used_by pool (devs old)) p ≡ true → list_any (is_used p) (table_of later).names ≡ true
      by k pool at h at_h named =
          let own : names (present_of (devs old) pool.devices) p ≡ true = ap (λ (l : List Path). names l p) (sym (list_is (devs old) (now moment state_at old) e found k pool at)) ∙ named in
          subst (λ (l : List PoolState). list_any (is_used p) (map known l) ≡ true) (sym pools_same)
          (known_any (is_used p) e.pools k pool at (used_rows p pool (know (devs old) (now moment state_at old) e found k pool at).flight ∙ (named_present (devs old) pool.devices p own).0))

  free_for : AreFreeFor (table_of later) (devs rest) (now moment state_at rest)
  free_for p n has =
      let free = left p n has in
      let there : Has (devs old) p n = sym (divides.rest_devs p ∙ ap (λ (b : Bool). cond b None (sectors_of (devs old) p)) free) ∙ has in
      let one : IsFreeIn later n (now moment state_at old p) = is_free (devs old) (now moment state_at old) e found p n there (unused p n there free) finished later pools_same next_from in
      subst (IsFreeFor (table_of later) n) (sym (divides.rest_same p free)) (record {
        settled = one.settled;
        alone = one.alone;
        silent = λ place lt q claimed. one.silent place lt q (elim claimed [
          | inl known_one ↦ inl (serial_found q later.pools known_one)
          | inr coming ↦ inr coming
        ]);
      })

  pub keeps_table : KeepsTable devs moment state_at (table_of later) rest parts
  keeps_table = record { the_free = the_free; settled = free_for; are_halted = are_halted }
