-- The devices that no known pool uses are free.
use Rattle.std.proofs.Common.{◌≡◌, inl, inr, ℕ, zero, suc, ◌%◌, ◌<◌, ◌≤◌, Bool, true, false, cond, leb, nat_eq, List, Option, Some, None, refl, sym, ◌∙◌, ap, subst, arith}
use Rattle.std.specs.Prelude.{max, unwrap_or}
use Rattle.std.specs.List.{slice_get}
use Rattle.std.proofs.lemmas.Bool.{cases_Bool}
use Rattle.std.proofs.lemmas.Bool.Decides.{nat_tests}
use Rattle.st_limits.specs.declared.TheConstants.{MAX_POOL_SERIAL}
use Rattle.st_fields.specs.Slot.{Found}
use Rattle.st_header.specs.Header.{header_of}
use Rattle.st_poolrec.specs.declared.record.PoolRec.{PoolRec}
use Rattle.st_poolrec.specs.Record as pools
use Rattle.st_model.specs.declared.state.EngineState.{EngineState}
use Rattle.st_model.specs.declared.state.PoolState.{PoolState}
use Rattle.st_model.specs.Found.{with_own_serial}
use Rattle.st_model.specs.Look.{pool_using, uses}
use Rattle.st_deltalog.specs.Log.{serial_in}
use Rattle.st_slots.specs.Reading.{read_slot}
use Rattle.st_commit.specs.Standing.{keep}
use Rattle.st_rack.specs.Story.{Content}
use Rattle.st_rack.specs.Device.{Path, State, held, cells}
use Rattle.st_rack.specs.Calls.{Devices, Has, names}
use Rattle.st_judge.specs.Placing.{has_row}
use Rattle.st_judge.proofs.Newest.{record_serial}
use Rattle.st_image.specs.Looks.{has_header, pool_area, slot_on}
use Rattle.st_image.specs.Bears.{Bears, Candidate, candidate, newest_on}
use Rattle.st_image.specs.EngineKept.{IsClaimed}
use Rattle.st_image.specs.Kept.{NoneOrGone}
use Rattle.st_image.specs.Rack.{slot_serial, greatest_on}
use Rattle.st_image.specs.Stands.{StandsFor, NoPool, Nothing, Gone}
use Rattle.st_parting.specs.Found.{AllFinished, IsFoundOn}
use Rattle.st_parting.specs.Free.{IsFreeIn}
use Rattle.st_parting.specs.Own.{used_by}
use Rattle.st_parting.proofs.Newest.{none_some, some_same, none_all, newest_most, on_is, on_most, AtMost}
use Rattle.st_parting.proofs.Headers.{candidate_slot, header_serial, none_on, with_header}
use Rattle.st_parting.proofs.Rows.{not_both}
use Rattle.st_parting.proofs.Finding.{pool_of, found_at, none_passes, place_of, greatest_at, row_there}
use Rattle.st_parting.proofs.Parting.{know, row_used, used_so}

-- where no slot is of the pool, there is no newest
none_newest : (q n : ℕ) (f : Content) → ((place : ℕ) → place < 2 → keep q (slot_on n place f) ≡ None) → newest_on q n f ≡ None
none_newest q n f none = by (newest_on q n f) refl
  where
    by : (o : Found) → newest_on q n f ≡ o → o ≡ None
    by None e = refl
    by (Some x) e =
        let one = on_is q n f x e in
        absurd (none_some x (sym (none one.0 one.1) ∙ candidate_slot q n one.0 f x one.2))

number_same : (a b : ℕ) → a ≡ b → nat_eq a b ≡ true
number_same a b e = grind (arith, nat_tests)

same_number : (a b : ℕ) → nat_eq a b ≡ true → a ≡ b
same_number a b e = grind (arith, nat_tests)

le_true : (n m : ℕ) → n ≤ m → leb n m ≡ true
le_true n m le = grind (arith, nat_tests)

-- what is kept begins with the serial
kept_found : (q : ℕ) (found : Found) (x : ℕ × List ℕ) → keep q found ≡ Some x → (found ≡ Some x) × (serial_in x.1 ≡ q)
kept_found q None x is = absurd (none_some x is)
kept_found q (Some y) x is = by (nat_eq (serial_in y.1) q) refl is
  where
    by : (b : Bool) → nat_eq (serial_in y.1) q ≡ b → cond b (Some y) None ≡ Some x → (Some y ≡ Some x) × (serial_in x.1 ≡ q)
    by true e at = (at, ap (λ (z : ℕ × List ℕ). serial_in z.1) (sym (some_same y x at)) ∙ same_number (serial_in y.1) q e)
    by false e at = absurd (none_some x at)

kept_own : (q : ℕ) (x : ℕ × List ℕ) → serial_in x.1 ≡ q → keep q (Some x) ≡ Some x
kept_own q x is = ap (λ (b : Bool). cond b (Some x) None) (number_same (serial_in x.1) q is)

-- a slot's serial is none above the greatest of its device
slot_low : (q n place : ℕ) (f : Content) (x : ℕ × List ℕ) → place < 2 → q ≤ MAX_POOL_SERIAL → keep q (slot_on n place f) ≡ Some x → q ≤ greatest_on n f
slot_low q n place f x lt small is = by place lt (sym (ap slot_serial one.0 ∙ serial))
  where
    one : (slot_on n place f ≡ Some x) × (serial_in x.1 ≡ q)
    one = kept_found q (slot_on n place f) x is

    serial : slot_serial (Some x) ≡ q
    serial = ap (λ (b : Bool). cond b (serial_in x.1) 0) (le_true (serial_in x.1) MAX_POOL_SERIAL (let e = one.1 in omega (arith, e, small))) ∙ one.1

    first : (h a b : ℕ) → a ≤ max h (max a b)
    first h a b = omega arith

    second : (h a b : ℕ) → b ≤ max h (max a b)
    second h a b = omega arith

    by : (place : ℕ) → place < 2 → q ≡ slot_serial (slot_on n place f) → q ≤ greatest_on n f
    by zero lt e = let le = first (unwrap_or (header_of n (cells f 0 8192)) 0) (slot_serial (slot_on n 0 f)) (slot_serial (slot_on n 1 f)) in subst (λ (k : ℕ). k ≤ greatest_on n f) (sym e) le
    by (suc zero) lt e = let le = second (unwrap_or (header_of n (cells f 0 8192)) 0) (slot_serial (slot_on n 0 f)) (slot_serial (slot_on n 1 f)) in subst (λ (k : ℕ). k ≤ greatest_on n f) (sym e) le
    by (suc (suc k)) lt e = absurd (omega arith)

module _ (devs : Devices) (s : State) (e : EngineState) (found : IsFoundOn devs s e) (p : Path) (n : ℕ) (has : Has devs p n) (unused : pool_using p e.pools ≡ None) where
  -- a known pool has no slot on it
  known_silent : (q : ℕ) (pool : PoolState) → with_own_serial q e ≡ Some pool → (place : ℕ) → place < 2 → keep q (slot_on n place (held s p)) ≡ None
  known_silent q pool is place lt =
      let at = found_at q e.pools pool is in
      let own = know devs s e found at.0 pool at.1 in
      let free : names (used_by pool devs) p ≡ false = sym (used_so devs s e found at.0 pool at.1 p n has) ∙ none_passes (uses p) e.pools at.0 pool unused at.1 in
      let here = place_of devs p n has in
      subst (λ (r : ℕ). keep r (slot_on n place (held s p)) ≡ None) at.2
      (own.bears.alone here.0 (p, n) here.1 (λ row j row_at same. not_both (names (used_by pool devs) p)
      (subst (λ (x : Path). names (used_by pool devs) x ≡ true) same (row_used devs s e found at.0 pool at.1 j row n row_at (subst (λ (x : Path). Has devs x n) (sym same) has))) free) place lt)

  module _ (finished : AllFinished devs (held s)) where
    -- the device bears the newest of a pool that is gone
    gone_newest : (q g : ℕ) (rec : PoolRec) → has_header q n (held s p) ≡ true → Bears q devs g rec (held s) → rec.gone ≡ true → read_slot pool_area (g % 2) (held s p) ≡ Some (g, pools.record_text rec)
        → NoneOrGone (newest_on q n (held s p))
    gone_newest q g rec header bears gone reads = by (newest_on q n (held s p)) refl
      where
        top : ℕ × List ℕ
        top = (g, pools.record_text rec)

        own : candidate q n (g % 2) (held s p) ≡ Some (g, pools.record_text rec)
        own = with_header q n (g % 2) (held s p) header ∙ ap (keep q) reads ∙ kept_own q (g, pools.record_text rec) (record_serial rec bears.is ∙ bears.serial)

        below : g % 2 < 2
        below = omega arith

        here : (k : ℕ) × (slice_get devs k ≡ Some (p, n))
        here = place_of devs p n has

        candidate_at : (place : ℕ) (x : ℕ × List ℕ) → place < 2 → candidate q n place (held s p) ≡ Some x → Candidate q devs (held s) x
        candidate_at place x lt is = record { index = here.0; dev = (p, n); of = here.1; place = place; of_two = lt; found = is }

        by : (o : Found) → newest_on q n (held s p) ≡ o → NoneOrGone o
        by None is = tt
        by (Some x) is =
            let one = on_is q n (held s p) x is in
            let cand = candidate_at one.0 x one.1 one.2 in
            let le : x.0 ≤ g = newest_most q (held s) devs (g, pools.record_text rec) x bears.newest cand in
            let ge : g ≤ x.0 = on_most q n (held s p) x.0 (g % 2) (g, pools.record_text rec) below own (subst (AtMost x.0) (sym is) (omega arith)) in
            let same : x.0 ≡ g = omega (arith, le, ge) in
            let body : x.1 ≡ pools.record_text rec = bears.sound.one x (g, pools.record_text rec) cand (candidate_at (g % 2) (g, pools.record_text rec) below own) same in
            (rec, record { is = bears.is; spelled = body }, gone)

    none_for : (q : ℕ) → has_header q n (held s p) ≡ true → NoPool q devs (held s) → NoneOrGone (newest_on q n (held s p))
    none_for q header (Nothing none) = subst NoneOrGone (sym (by (newest_on q n (held s p)) refl)) tt
      where
        by : (o : Found) → newest_on q n (held s p) ≡ o → newest_on q n (held s p) ≡ None
        by None is = is
        by (Some x) is =
            let one = on_is q n (held s p) x is in
            let here = place_of devs p n has in
            absurd (none_all q (held s) devs x none (record { index = here.0; dev = (p, n); of = here.1; place = one.0; of_two = one.1; found = one.2 }))
    none_for q header (Gone g rec bears gone) = elim (cases_Bool (has_row rec.devs p)) [
      | inl row ↦ gone_newest q g rec header bears gone (finished q g rec (header_serial q n (held s p) header) bears gone p n has header row)
      | inr none ↦
          let here = place_of devs p n has in
          subst NoneOrGone (sym (none_newest q n (held s p) (λ place lt. bears.alone here.0 (p, n) here.1 (λ row j row_at same. not_both (has_row rec.devs p) (row_there rec.devs p j row row_at same) none) place lt))) tt
    ]

    alone : (q : ℕ) → NoneOrGone (newest_on q n (held s p))
    alone q = elim (cases_Bool (has_header q n (held s p))) [
      | inl header ↦ by (with_own_serial q e) refl header
      | inr none ↦ subst NoneOrGone (sym (none_on q n (held s p) none)) tt
    ]
      where
        by : (o : Option PoolState) → with_own_serial q e ≡ o → has_header q n (held s p) ≡ true → NoneOrGone (newest_on q n (held s p))
        by None is header = none_for q header (subst (λ (o : Option PoolState). StandsFor q devs (held s) o) is (found.stands.each q (header_serial q n (held s p) header)))
        by (Some pool) is header = subst NoneOrGone (sym (none_newest q n (held s p) (λ place lt. known_silent q pool is place lt))) tt

    module _ (later : EngineState) (pools_same : later.pools ≡ e.pools) (next_from : e.next ≤ later.next) where
      silent : (place : ℕ) → place < 2 → (q : ℕ) → IsClaimed later q → keep q (slot_on n place (held s p)) ≡ None
      silent place lt q (inl known) = known_silent q known.0 (ap (λ (l : List PoolState). pool_of q l) (sym pools_same) ∙ known.1) place lt
      silent place lt q (inr coming) = by (keep q (slot_on n place (held s p))) refl
        where
          by : (o : Found) → keep q (slot_on n place (held s p)) ≡ o → o ≡ None
          by None is = refl
          by (Some x) is =
              let here = place_of devs p n has in
              let low = slot_low q n place (held s p) x lt coming.1 is in
              let most = greatest_at devs (held s) here.0 (p, n) here.1 in
              let next = found.stands.next in
              let from = coming.0 in
              absurd (omega (arith, low, most, next, from, next_from))

      pub is_free : IsFreeIn later n (s p)
      is_free = record { settled = found.settled p n has; alone = alone; silent = silent }
