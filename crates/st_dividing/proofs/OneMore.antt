-- One pool more goes to a rack of its own.
use Rattle.std.proofs.Common.{◌≡◌, ◌⊎◌, inl, inr, ℕ, zero, suc, ◌+◌, ◌<◌, ◌≤◌, Bool, true, false, ◌||◌, cond, List, [], ◌∷◌, ◌++◌, length, map, Option, Some, None, refl, sym, ◌∙◌, ap, subst, arith}
use Rattle.std.specs.Prelude.{is_some}
use Rattle.std.specs.List.{slice_get, sum_by, AllByRecursion}
use Rattle.std.proofs.lemmas.Bool.{cases_Bool}
use Rattle.std.proofs.lemmas.List.Folds.{list_any-append}
use Rattle.std.proofs.lemmas.List.Sums.{sum_by_push}
use Rattle.std.proofs.lemmas.Option.{slice_get_within}
use Rattle.st_rack.specs.Device.{Path, State}
use Rattle.st_rack.specs.Calls.{Devices, names, sectors_of}
use Rattle.st_rack.specs.Parts.{IsSame, Splits}
use Rattle.st_judge.specs.declared.rows.FoundRow.{FoundRow}
use Rattle.st_parting.specs.Own.{IsPart}
use Rattle.st_parting.proofs.Newest.{none_some, some_same}
use Rattle.st_parting.proofs.Rows.{not_both}
use Rattle.st_pool.specs.Halts.{HaltedView}
use Rattle.st_pool.specs.View.{now}
use Rattle.st_dividing.specs.Divided.{AreApart, AreRowsApart, Divides, found_as, is_taken, path_of_row, present_of}
use Rattle.st_dividing.proofs.Present.{is_here, present_named, present_same}

or_cases : (a b : Bool) → (a || b) ≡ true → (a ≡ true) ⊎ (b ≡ true)
or_cases true b e = inl refl
or_cases false b e = inr e

or_false : (a b : Bool) → (a || b) ≡ false → (a ≡ false) × (b ≡ false)
or_false true b e = absurd (cc)
or_false false b e = (refl, e)

end_false : (b : Bool) → (b || false) ≡ b
end_false true = refl
end_false false = refl

-- an item of a list with one more
pub at_push : {X : Type 0} (xs : List X) (y x : X) (k : ℕ) → slice_get (xs ++ y ∷ []) k ≡ Some x → (slice_get xs k ≡ Some x) ⊎ ((k ≡ length xs) × (y ≡ x))
at_push [] y x zero at = inr (refl, some_same y x at)
at_push [] y x (suc k) at = absurd (none_some x at)
at_push (z ∷ zs) y x zero at = inl at
at_push (z ∷ zs) y x (suc k) at = elim (at_push zs y x k at) [
  | inl old ↦ inl old
  | inr new ↦ inr (ap suc new.0, new.1)
]

pub length_push : {X : Type 0} (xs : List X) (y : X) → length (xs ++ y ∷ []) ≡ length xs + 1
length_push [] y = refl
length_push (z ∷ zs) y = let more = length_push zs y in omega (arith, more)

all_push : {X : Type 0} (P : X → Type 0) (xs : List X) (y : X) → AllByRecursion P xs → P y → AllByRecursion P (xs ++ y ∷ [])
all_push P [] y all one = (one, tt)
all_push P (z ∷ zs) y all one = (all.0, all_push P zs y all.1 one)

taken_at : {D : Type 0} (parts : List (HaltedView D)) (p : Path) → is_taken parts p ≡ true → (k : ℕ) × (h : HaltedView D) × (slice_get parts k ≡ Some h) × (names h.devs p ≡ true)
taken_at [] p e = absurd (cc)
taken_at (h ∷ hs) p e = elim (or_cases (names h.devs p) (is_taken hs p) e) [
  | inl here ↦ (0, h, refl, here)
  | inr later ↦ let rest = taken_at hs p later in (suc rest.0, rest.1, rest.2, rest.3)
]

taken_more : {D : Type 0} (parts : List (HaltedView D)) (h : HaltedView D) (p : Path) → is_taken (parts ++ h ∷ []) p ≡ (is_taken parts p || names h.devs p)
taken_more parts h p = list_any-append (λ (x : HaltedView _). names x.devs p) parts (h ∷ []) ∙ ap (λ (b : Bool). is_taken parts p || b) (end_false (names h.devs p))

-- one more that has no device of those
apart_push : {D : Type 0} (parts : List (HaltedView D)) (h : HaltedView D) → AreApart parts → ((p : Path) → names h.devs p ≡ true → is_taken parts p ≡ false) → AreApart (parts ++ h ∷ [])
apart_push [] h apart none = ((λ p named. refl), tt)
apart_push (x ∷ xs) h apart none = ((λ p named. taken_more xs h p ∙ both (is_taken xs p) (names h.devs p) (apart.0 p named) (other p named (names h.devs p) refl)), apart_push xs h apart.1 (λ p named. (or_false (names x.devs p) (is_taken xs p) (none p named)).1))
  where
    both : (a b : Bool) → a ≡ false → b ≡ false → (a || b) ≡ false
    both true b e k = absurd cc
    both false b e k = k

    other : (p : Path) → names x.devs p ≡ true → (b : Bool) → names h.devs p ≡ b → b ≡ false
    other p named true on = absurd (not_both (names x.devs p) named (or_false (names x.devs p) (is_taken xs p) (none p on)).0)
    other p named false off = refl

module _ {D : Type 0} (devs : D → Devices) (moment : D → ℕ) (state_at : D → ℕ → State) (faults spare : D → ℕ) where
  -- nothing is divided yet
  pub divides_none : (old : D) → Divides devs moment state_at faults spare old old []
  divides_none old = record {
    rest_devs = λ p. refl;
    rest_same = λ p miss. refl;
    each = λ k h at. absurd (none_some h at);
    places = omega arith;
    count = omega arith;
    counted = refl;
    none_failed = tt;
    apart = tt;
  }

  -- the rack was left as it was
  pub divides_same : (reads : D → Path → ℕ) (old r1 r2 : D) (parts : List (HaltedView D)) → Divides devs moment state_at faults spare old r1 parts → IsSame devs moment state_at reads r1 r2 → spare r1 ≤ spare r2 → faults r2 ≡ faults r1
      → Divides devs moment state_at faults spare old r2 parts
  divides_same reads old r1 r2 parts before same more failed = record {
    rest_devs = λ p. ap (λ (ds : Devices). sectors_of ds p) same.devices ∙ before.rest_devs p;
    rest_same = λ p miss. (λ i. same.states i (same.clock i) p) ∙ before.rest_same p miss;
    each = before.each;
    places = let le = before.places in omega (arith, le, more);
    count = ap (λ (ds : Devices). length ds + sum_by (λ (h : HaltedView D). length (devs h.rack)) parts) same.devices ∙ before.count;
    counted = failed ∙ before.counted;
    none_failed = before.none_failed;
    apart = before.apart;
  }

  module _ (old r1 r2 : D) (rows : List FoundRow) (apart : AreRowsApart (devs old) rows) (parts : List (HaltedView D)) (before : Divides devs moment state_at faults spare old r1 parts)
      (told : (k : ℕ) (row : FoundRow) (h : HaltedView D) → slice_get rows k ≡ Some row → slice_get parts k ≡ Some h → h ≡ found_as (devs old) row h.rack) (i : ℕ) (row : FoundRow) (at : slice_get rows i ≡ Some row) (counted : length parts ≡ i) where
    row_at : (k : ℕ) → k < i → (other : FoundRow) × (slice_get rows k ≡ Some other)
    row_at k lt = get rows k (let le = slice_get_within rows i row at in omega (arith, lt, le))
      where
        get : (xs : List FoundRow) (k : ℕ) → k < length xs → (x : FoundRow) × (slice_get xs k ≡ Some x)
        get [] k lt = absurd (omega arith)
        get (x ∷ xs) zero lt = (x, refl)
        get (x ∷ xs) (suc k) lt = get xs k (omega (arith, lt))

    -- a device of the row is in no rack of a pool yet
    not_taken : (p : Path) → names (present_of (devs old) row.devs) p ≡ true → is_taken parts p ≡ false
    not_taken p named = elim (cases_Bool (is_taken parts p)) [
      | inl taken ↦
          let one = taken_at parts p taken in
          let lt : one.0 < i = let le = slice_get_within parts one.0 one.1 one.2 in omega (arith, le, counted) in
          let other = row_at one.0 lt in
          let is = told one.0 other.0 one.1 other.1 one.2 in
          let there : names (present_of (devs old) other.0.devs) p ≡ true = ap (λ (h : HaltedView D). names h.devs p) (sym is) ∙ one.3 in
          absurd (not_both (names (present_of (devs old) row.devs) p) named (apart.apart one.0 i other.0 row other.1 at lt p there))
      | inr free ↦ free
    ]

    rest_has : (p : Path) → is_taken parts p ≡ false → sectors_of (devs r1) p ≡ sectors_of (devs old) p
    rest_has p free = before.rest_devs p ∙ ap (λ (b : Bool). cond b None (sectors_of (devs old) p)) free

    pub list_same : present_of (devs r1) row.devs ≡ present_of (devs old) row.devs
    list_same = present_same (devs r1) (devs old) row.devs (λ p named. by p named (is_taken parts p) refl)
      where
        not_true : (b : Bool) → (b ≡ true → ⊥) → b ≡ false
        not_true true never = absurd (never refl)
        not_true false never = refl

        by : (p : Path) → names (map path_of_row row.devs) p ≡ true → (b : Bool) → is_taken parts p ≡ b → is_here (devs r1) p ≡ is_here (devs old) p
        by p named false free = ap is_some (rest_has p free)
        by p named true taken =
            let gone : sectors_of (devs r1) p ≡ None = before.rest_devs p ∙ ap (λ (b : Bool). cond b None (sectors_of (devs old) p)) taken in
            ap is_some gone ∙ sym (not_true (is_here (devs old) p) (λ here. not_both (is_taken parts p) taken (not_taken p (present_named (devs old) row.devs p named here))))

    module _ (h : HaltedView D) (is : h ≡ found_as (devs r1) row h.rack) (split : Splits devs moment state_at (present_of (devs r1) row.devs) r1 r2 h.rack) where
      pub is_found : h ≡ found_as (devs old) row h.rack
      is_found = is ∙ (λ j. record { serial = row.serial; devs = list_same j; rack = h.rack; flight = None; faults = 0 })

      named_is : (p : Path) → names h.devs p ≡ names (present_of (devs r1) row.devs) p
      named_is p = ap (λ (x : HaltedView D). names x.devs p) is

      named_old : (p : Path) → names h.devs p ≡ names (present_of (devs old) row.devs) p
      named_old p = ap (λ (x : HaltedView D). names x.devs p) is_found

      rest_devs : (p : Path) → sectors_of (devs r2) p ≡ cond (is_taken (parts ++ h ∷ []) p) None (sectors_of (devs old) p)
      rest_devs p =
          split.stay p ∙ (λ j. cond (sym (named_is p) j) None (before.rest_devs p j)) ∙ both (is_taken parts p) (names h.devs p) (sectors_of (devs old) p) ∙ ap (λ (b : Bool). cond b None (sectors_of (devs old) p)) (sym (taken_more parts h p))
        where
          both : (a b : Bool) (o : Option ℕ) → cond b None (cond a None o) ≡ cond (a || b) None o
          both true true o = refl
          both true false o = refl
          both false b o = refl

      rest_same : (p : Path) → is_taken (parts ++ h ∷ []) p ≡ false → now moment state_at r2 p ≡ now moment state_at old p
      rest_same p free =
          let two = or_false (is_taken parts p) (names h.devs p) (sym (taken_more parts h p) ∙ free) in
          ap (λ (k : ℕ). state_at r2 k p) split.clock ∙ split.states (moment r1) p (sym (named_is p) ∙ two.1) (omega arith) ∙ before.rest_same p two.0

      new_part : IsPart h.devs (devs old) (now moment state_at old) (devs h.rack) (now moment state_at h.rack)
      new_part = record {
        devices = λ p. split.go p ∙ (λ j. cond (sym (named_is p) j) (sectors_of (devs r1) p) None) ∙ own p (names h.devs p) refl;
        states = λ p named. ap (λ (k : ℕ). state_at h.rack k p) split.clock_gone ∙ split.states_gone (moment r1) p (sym (named_is p) ∙ named) (omega arith) ∙ before.rest_same p (not_taken p (sym (named_old p) ∙ named));
      }
        where
          own : (p : Path) (b : Bool) → names h.devs p ≡ b → cond (names h.devs p) (sectors_of (devs r1) p) None ≡ cond (names h.devs p) (sectors_of (devs old) p) None
          own p true named = ap (λ (o : Option ℕ). cond (names h.devs p) o None) (rest_has p (not_taken p (sym (named_old p) ∙ named)))
          own p false miss = ap (λ (b : Bool). cond b (sectors_of (devs r1) p) None) miss ∙ sym (ap (λ (b : Bool). cond b (sectors_of (devs old) p) None) miss)

      pub divides_more : spare r1 + length (devs h.rack) ≤ spare r2 → faults h.rack ≡ 0 → faults r2 ≡ faults r1 → Divides devs moment state_at faults spare old r2 (parts ++ h ∷ [])
      divides_more places none failed = record {
        rest_devs = rest_devs;
        rest_same = rest_same;
        each = λ k part there. elim (at_push parts h part k there) [
          | inl earlier ↦ before.each k part earlier
          | inr here ↦ subst (λ (x : HaltedView D). IsPart x.devs (devs old) (now moment state_at old) (devs x.rack) (now moment state_at x.rack)) here.1 new_part
        ];
        places =
            let le = before.places in
            let sum : sum_by (λ (x : HaltedView D). length (devs x.rack)) (parts ++ h ∷ []) ≡ sum_by (λ (x : HaltedView D). length (devs x.rack)) parts + length (devs h.rack) = sum_by_push (λ (x : HaltedView D). length (devs x.rack)) parts h in
            omega (arith, le, sum, places);
        count =
            let all = before.count in
            let sum : sum_by (λ (x : HaltedView D). length (devs x.rack)) (parts ++ h ∷ []) ≡ sum_by (λ (x : HaltedView D). length (devs x.rack)) parts + length (devs h.rack) = sum_by_push (λ (x : HaltedView D). length (devs x.rack)) parts h in
            let two = split.count in
            omega (arith, all, sum, two);
        counted = failed ∙ before.counted;
        none_failed = all_push (λ (x : HaltedView D). faults x.rack ≡ 0) parts h before.none_failed none;
        apart = apart_push parts h before.apart (λ p named. not_taken p (sym (named_old p) ∙ named));
      }

      pub told_more : (k : ℕ) (other : FoundRow) (part : HaltedView D) → slice_get rows k ≡ Some other → slice_get (parts ++ h ∷ []) k ≡ Some part → part ≡ found_as (devs old) other part.rack
      told_more k other part there at_part = elim (at_push parts h part k at_part) [
        | inl earlier ↦ told k other part there earlier
        | inr here ↦
            let same : row ≡ other = some_same row other (sym at ∙ ap (slice_get rows) (sym (here.0 ∙ counted)) ∙ there) in
            subst (λ (x : HaltedView D). x ≡ found_as (devs old) other x.rack) here.1 (is_found ∙ ap (λ (r : FoundRow). found_as (devs old) r h.rack) same)
      ]
