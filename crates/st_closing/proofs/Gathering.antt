-- One rack more is put into the first.
use Rattle.std.proofs.Common.{◌≡◌, ℕ, ◌+◌, ◌<◌, ◌≤◌, Bool, true, false, cond, min, length, List, [], ◌∷◌, ◌++◌, map, Option, Some, None, is_some, refl, sym, ◌∙◌, ap, subst, arith}
use Rattle.std.specs.Prelude.{remove, option_map}
use Rattle.std.specs.List.{slice_get, AllByRecursion, sum_by}
use Rattle.std.proofs.lemmas.List.Sums.{sum_by-cons}
use Rattle.st_units.specs.declared.rows.DevRow.{DevRow}
use Rattle.st_model.specs.Look.{row_of}
use Rattle.st_rack.specs.Device.{Path, DevState, State}
use Rattle.st_rack.specs.Calls.{Devices, Has, Rises, sectors_of}
use Rattle.st_rack.specs.Parts.{AreApart, Joins}
use Rattle.st_pool.specs.View.{now}
use Rattle.st_board.specs.View.{last}
use Rattle.st_board.proofs.Counting.{no_more}
use Rattle.st_board.proofs.Going.{now_own}
use Rattle.st_closing.specs.inner.Gathering.{Gathers, HasPlaces, IsWithinRows, MayGather, PairsApart, dev_in, dev_on, or_else}

or_third : {A : Type 0} (a b c : Option A) → or_else (or_else a b) c ≡ or_else a (or_else b c)
or_third None b c = refl
or_third (Some a) b c = refl

or_none : {A : Type 0} (a : Option A) → or_else a None ≡ a
or_none None = refl
or_none (Some a) = refl

off_is : (o : Option ℕ) → is_some o ≡ false → o ≡ None
off_is None e = refl
off_is (Some n) e = absurd cc

module _ {D : Type 0} (devs : D → Devices) (moment : D → ℕ) (state_at : D → ℕ → State) (faults spare : D → ℕ) where
  module _ (rows : List DevRow) (r x : D) (ys : List D) (may : MayGather devs spare rows (r ∷ x ∷ ys)) where
    pub apart_first : AreApart devs r x
    apart_first = may.apart.0.0

    pub room_first : Rises (devs x) → Rises (devs r) → length (devs x) ≤ spare r
    room_first rx rr =
        let most = no_more rows (devs x) (devs r) rx rr may.within.1.0 may.within.0 (λ p n has. may.apart.0.0 p n has) in
        let places : length rows ≤ spare r + length (devs r) = may.places in
        omega (arith, most, places)

    module _ (joined : D) (joins : Joins devs moment state_at r x joined) where
      on_joined : (p : Path) (o : Option ℕ) → sectors_of (devs x) p ≡ o → dev_on devs moment state_at joined p ≡ or_else (dev_on devs moment state_at r p) (dev_on devs moment state_at x p)
      on_joined p (Some n) e =
          let none : sectors_of (devs r) p ≡ None = off_is (sectors_of (devs r) p) (may.apart.0.0 p n e) in
          (λ i. option_map (λ (k : ℕ). (k, joins.states_others (moment joined) p n e (omega arith) i)) ((joins.others p n e ∙ sym e) i))
          ∙ ap (λ (o : Option ℕ). or_else (option_map (λ (k : ℕ). (k, now moment state_at r p)) o) (dev_on devs moment state_at x p)) (sym none)
      on_joined p None e =
          (λ i. option_map (λ (k : ℕ). (k, now_own devs moment state_at r x joined joins p (ap is_some e) i)) (joins.own p (ap is_some e) i))
          ∙ sym (ap (λ (o : Option ℕ). or_else (dev_on devs moment state_at r p) (option_map (λ (k : ℕ). (k, now moment state_at x p)) o)) e ∙ or_none (dev_on devs moment state_at r p))

      pub same_union : (p : Path) → dev_in devs moment state_at (joined ∷ ys) p ≡ dev_in devs moment state_at (r ∷ x ∷ ys) p
      same_union p = ap (λ (o : Option (ℕ × DevState)). or_else o (dev_in devs moment state_at ys p)) (on_joined p (sectors_of (devs x) p) refl) ∙ or_third (dev_on devs moment state_at r p) (dev_on devs moment state_at x p) (dev_in devs moment state_at ys p)

      none_joined : (p : Path) → is_some (sectors_of (devs r) p) ≡ false → is_some (sectors_of (devs x) p) ≡ false → is_some (sectors_of (devs joined) p) ≡ false
      none_joined p off_r off_x = ap is_some (joins.own p off_x) ∙ off_r

      apart_joined : (zs : List D) → AllByRecursion (AreApart devs r) zs → AllByRecursion (AreApart devs x) zs → AllByRecursion (AreApart devs joined) zs
      apart_joined [] a b = tt
      apart_joined (z ∷ zs) a b = ((λ p n has. none_joined p (a.0 p n has) (b.0 p n has)), apart_joined zs a.1 b.1)

      within_joined : IsWithinRows devs rows joined
      within_joined p n has = by (sectors_of (devs x) p) refl
        where
          by : (o : Option ℕ) → sectors_of (devs x) p ≡ o → is_some (row_of p rows) ≡ true
          by (Some m) e = may.within.1.0 p m e
          by None e = may.within.0 p n (sym (joins.own p (ap is_some e)) ∙ has)

      pub may_then : spare r ≤ spare joined + length (devs x) → MayGather devs spare rows (joined ∷ ys)
      may_then more = record {
        apart = (apart_joined ys may.apart.0.1 may.apart.1.0, may.apart.1.1);
        within = (within_joined, may.within.1.1);
        places =
            let places : length rows ≤ spare r + length (devs r) = may.places in
            let count = joins.count in
            let all : length rows ≤ spare joined + length (devs joined) = omega (arith, places, count, more) in
            all;
      }

  -- ---- while they are put in

  pub record Going (old : D) (all : List D) (total : ℕ) (r : D) (left : List D) (rest_of : ℕ) : Type 0 where
    pub goes : (rows : List DevRow) (rest : List D) → MayGather devs spare rows (old ∷ all ++ rest) → MayGather devs spare rows (r ∷ left ++ rest)
    pub same : (rows : List DevRow) (rest : List D) → MayGather devs spare rows (old ∷ all ++ rest) → (p : Path) → dev_in devs moment state_at (r ∷ left ++ rest) p ≡ dev_in devs moment state_at (old ∷ all ++ rest) p
    pub counts : faults r < last → faults old + total ≤ faults r + rest_of

  pub begun : (old : D) (all : List D) (total : ℕ) → Going old all total old all total
  begun old all total = record { goes = λ rows rest may. may; same = λ rows rest may p. refl; counts = λ less. (omega arith) }

  pub one_more : (old : D) (all : List D) (total : ℕ) (r x : D) (xs : List D) (f rest_of : ℕ) → Going old all total r (x ∷ xs) (f + rest_of) → (joined : D) → Joins devs moment state_at r x joined → spare r ≤ spare joined + length (devs x)
      → faults joined ≡ min (faults r + faults x) last → f ≤ faults x → Going old all total joined xs rest_of
  one_more old all total r x xs f rest_of going joined joins places sum most = record {
    goes = λ rows rest may. may_then rows r x (xs ++ rest) (going.goes rows rest may) joined joins places;
    same = λ rows rest may p. same_union rows r x (xs ++ rest) (going.goes rows rest may) joined joins p ∙ going.same rows rest may p;
    counts = λ less. by less (going.counts (below less));
  }
    where
      below : faults joined < last → faults r < last
      below less = omega (arith, less, sum)

      by : faults joined < last → faults old + total ≤ faults r + (f + rest_of) → faults old + total ≤ faults joined + rest_of
      by less le = omega (arith, less, le, sum, most)

  pub all_in : (old : D) (all : List D) (total : ℕ) (r : D) → Going old all total r [] 0 → Gathers devs moment state_at faults spare old all r total
  all_in old all total r going = record { goes_on = going.goes; same = going.same; counts = λ less. (let le = going.counts less in omega (arith, le)) }

  -- the same of lists whose first item was taken out
  module _ {X : Type 0} (rack_of : X → D) (faults_in : X → ℕ) (old : D) (all : List X) (r : D) (xs ys : List X) (h : X) (is : xs ≡ h ∷ ys) (x : D) (rack : x ≡ rack_of h) (going : Going old (map rack_of all) (sum_by faults_in all) r (map rack_of xs) (sum_by faults_in xs)) where
    going_now : Going old (map rack_of all) (sum_by faults_in all) r (rack_of h ∷ map rack_of ys) (faults_in h + sum_by faults_in ys)
    going_now = subst (λ (n : ℕ). Going old (map rack_of all) (sum_by faults_in all) r (rack_of h ∷ map rack_of ys) n) (sum_by-cons faults_in h ys) (subst (λ (l : List X). Going old (map rack_of all) (sum_by faults_in all) r (map rack_of l) (sum_by faults_in l)) is going)

    module _ (rows : List DevRow) (rest : List D) (may : MayGather devs spare rows (old ∷ map rack_of all ++ rest)) where
      pub apart_now : AreApart devs r x
      apart_now = subst (AreApart devs r) (sym rack) (apart_first rows r (rack_of h) (map rack_of ys ++ rest) (going_now.goes rows rest may))

      pub room_now : Rises (devs x) → Rises (devs r) → length (devs x) ≤ spare r
      room_now rx rr = subst (λ (y : D). length (devs y) ≤ spare r) (sym rack) (room_first rows r (rack_of h) (map rack_of ys ++ rest) (going_now.goes rows rest may) (subst (λ (y : D). Rises (devs y)) rack rx) rr)

    pub more_now : (joined : D) → Joins devs moment state_at r x joined → spare r ≤ spare joined + length (devs x) → faults joined ≡ min (faults r + faults x) last → faults_in h ≤ faults (rack_of h)
        → Going old (map rack_of all) (sum_by faults_in all) joined (map rack_of ys) (sum_by faults_in ys)
    more_now joined joins places total most =
        one_more old (map rack_of all) (sum_by faults_in all) r (rack_of h) (map rack_of ys) (faults_in h) (sum_by faults_in ys) going_now joined (subst (λ (y : D). Joins devs moment state_at r y joined) rack joins)
        (subst (λ (y : D). spare r ≤ spare joined + length (devs y)) rack places) (total ∙ ap (λ (y : D). min (faults r + faults y) last) rack) most

  pub gathered : {X : Type 0} (rack_of : X → D) (faults_in : X → ℕ) (old : D) (all : List X) (r : D) (xs : List X) → xs ≡ [] → Going old (map rack_of all) (sum_by faults_in all) r (map rack_of xs) (sum_by faults_in xs)
      → Gathers devs moment state_at faults spare old (map rack_of all) r (sum_by faults_in all)
  gathered rack_of faults_in old all r xs is going = all_in old (map rack_of all) (sum_by faults_in all) r (subst (λ (l : List _). Going old (map rack_of all) (sum_by faults_in all) r (map rack_of l) (sum_by faults_in l)) is going)

pub taken_first : {A : Type 0} (xs ys : List A) (x : A) → slice_get xs 0 ≡ Some x → ys ≡ remove xs 0 → xs ≡ x ∷ ys
taken_first [] ys x at rest = absurd cc
taken_first (z ∷ zs) ys x at rest = let same : z ≡ x = cc in λ i. same i ∷ sym rest i

pub empty : {A : Type 0} (xs : List A) (k end : ℕ) → length xs + k ≡ end → end ≤ k → xs ≡ []
empty [] k end size le = refl
empty (x ∷ xs) k end size le = absurd (omega (arith, size, le))
