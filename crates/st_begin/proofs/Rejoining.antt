-- The racks of pools join the rest of the rack that they were taken from.
use Rattle.std.proofs.Common.{◌≡◌, ℕ, zero, suc, ◌+◌, ◌<◌, ◌≤◌, Bool, true, false, ◌||◌, cond, min, length, List, [], ◌∷◌, Option, Some, None, is_some, refl, sym, ◌∙◌, ap, subst, arith}
use Rattle.std.specs.Prelude.{remove}
use Rattle.std.specs.List.{slice_get, sum_by}
use Rattle.std.proofs.lemmas.List.Sums.{sum_by-cons}
use Rattle.st_rack.specs.Device.{Path, State}
use Rattle.st_rack.specs.Calls.{Devices, Has, names, sectors_of}
use Rattle.st_rack.specs.Parts.{AreApart as RacksApart, Joins}
use Rattle.st_parting.specs.Own.{IsPart}
use Rattle.st_pool.specs.Halts.{HaltedView}
use Rattle.st_pool.specs.View.{now}
use Rattle.st_dividing.specs.Divided.{AreApart, Divides, is_taken}
use Rattle.st_board.specs.View.{last}
use Rattle.st_board.proofs.Going.{now_own}
use Rattle.st_begin.specs.Begun.{IsRejoined}

or_false : (a b : Bool) → a ≡ false → b ≡ false → (a || b) ≡ false
or_false true b e k = absurd cc
or_false false b e k = k

or_true : (a b : Bool) → a ≡ true → (a || b) ≡ true
or_true true b e = refl
or_true false b e = absurd cc

none_either : (b : Bool) (o : Option ℕ) → o ≡ None → cond b None o ≡ None
none_either true o e = refl
none_either false o e = e

-- a list whose first item was taken out
pub taken_first : {A : Type 0} (xs ys : List A) (x : A) → slice_get xs 0 ≡ Some x → ys ≡ remove xs 0 → xs ≡ x ∷ ys
taken_first [] ys x at rest = absurd cc
taken_first (z ∷ zs) ys x at rest = let same : z ≡ x = cc in λ i. same i ∷ sym rest i

module _ {D : Type 0} (devs : D → Devices) (moment : D → ℕ) (state_at : D → ℕ → State) (faults spare : D → ℕ) where
  abbrev size : HaltedView D → ℕ
  size h = length (devs h.rack)

  -- The pools that are left are still on racks of their own, and the rack has all other devices of the whole one.
  pub record StillDivides (whole r : D) (parts : List (HaltedView D)) : Type 0 where
    pub devices : (p : Path) → sectors_of (devs r) p ≡ cond (is_taken parts p) None (sectors_of (devs whole) p)
    pub same : (p : Path) (n : ℕ) → Has (devs whole) p n → is_taken parts p ≡ false → now moment state_at r p ≡ now moment state_at whole p
    pub each : (k : ℕ) (h : HaltedView D) → slice_get parts k ≡ Some h → IsPart h.devs (devs whole) (now moment state_at whole) (devs h.rack) (now moment state_at h.rack)
    pub room : sum_by size parts ≤ spare r
    pub counts : faults r < last → faults whole ≤ faults r
    pub apart : AreApart parts

  pub at_first : (whole rest : D) (parts : List (HaltedView D)) → Divides devs moment state_at faults spare whole rest parts → StillDivides whole rest parts
  at_first whole rest parts h = record {
    devices = h.rest_devs;
    same = λ p n has free. h.rest_same p free;
    each = h.each;
    room = let places = h.places in omega (arith, places);
    counts = λ less. (let same = h.counted in omega (arith, same));
    apart = h.apart;
  }

  module _ (whole r : D) (h : HaltedView D) (hs : List (HaltedView D)) (still : StillDivides whole r (h ∷ hs)) where
    own : IsPart h.devs (devs whole) (now moment state_at whole) (devs h.rack) (now moment state_at h.rack)
    own = still.each 0 h refl

    named : (p : Path) (n : ℕ) → Has (devs h.rack) p n → (names h.devs p ≡ true) × Has (devs whole) p n
    named p n has = by (names h.devs p) refl (sym (own.devices p) ∙ has)
      where
        by : (b : Bool) → names h.devs p ≡ b → cond b (sectors_of (devs whole) p) None ≡ Some n → (names h.devs p ≡ true) × Has (devs whole) p n
        by true e k = (e, k)
        by false e k = absurd cc

    pub none_of_it : RacksApart devs r h.rack
    none_of_it p n has = ap is_some (still.devices p ∙ ap (λ (b : Bool). cond b None (sectors_of (devs whole) p)) (or_true (names h.devs p) (is_taken hs p) (named p n has).0))

    pub place_for_it : length (devs h.rack) ≤ spare r
    place_for_it = let room = still.room in let sum : sum_by size (h ∷ hs) ≡ length (devs h.rack) + sum_by size hs = sum_by-cons size h hs in omega (arith, room, sum)

    module _ (joined : D) (joins : Joins devs moment state_at r h.rack joined) where
      devices_then : (p : Path) (o : Option ℕ) → sectors_of (devs h.rack) p ≡ o → sectors_of (devs joined) p ≡ cond (is_taken hs p) None (sectors_of (devs whole) p)
      devices_then p (Some n) e =
          let on = named p n e in
          joins.others p n e ∙ sym (ap (λ (b : Bool). cond b None (sectors_of (devs whole) p)) (still.apart.0 p on.0) ∙ on.1)
      devices_then p None e = joins.own p (ap is_some e) ∙ still.devices p ∙ by (names h.devs p) refl
        where
          by : (b : Bool) → names h.devs p ≡ b → cond (b || is_taken hs p) None (sectors_of (devs whole) p) ≡ cond (is_taken hs p) None (sectors_of (devs whole) p)
          by true on = sym (none_either (is_taken hs p) (sectors_of (devs whole) p) (sym (ap (λ (b : Bool). cond b (sectors_of (devs whole) p) None) on) ∙ sym (own.devices p) ∙ e))
          by false off = refl

      same_then : (p : Path) (n : ℕ) → Has (devs whole) p n → is_taken hs p ≡ false → (o : Option ℕ) → sectors_of (devs h.rack) p ≡ o → now moment state_at joined p ≡ now moment state_at whole p
      same_then p n has free (Some m) e = joins.states_others (moment joined) p m e (omega arith) ∙ own.states p (named p m e).0
      same_then p n has free None e = now_own devs moment state_at r h.rack joined joins p (ap is_some e) ∙ still.same p n has (or_false (names h.devs p) (is_taken hs p) (off (names h.devs p) refl) free)
        where
          off : (b : Bool) → names h.devs p ≡ b → b ≡ false
          off true on = absurd (let none : Some n ≡ None = sym has ∙ sym (ap (λ (b : Bool). cond b (sectors_of (devs whole) p) None) on) ∙ sym (own.devices p) ∙ e in cc)
          off false k = refl

      pub one_back : spare r ≤ spare joined + length (devs h.rack) → faults joined ≡ min (faults r + faults h.rack) last → StillDivides whole joined hs
      one_back places total = record {
        devices = λ p. devices_then p (sectors_of (devs h.rack) p) refl;
        same = λ p n has free. same_then p n has free (sectors_of (devs h.rack) p) refl;
        each = λ k x at. still.each (suc k) x at;
        room = let room = still.room in let sum : sum_by size (h ∷ hs) ≡ length (devs h.rack) + sum_by size hs = sum_by-cons size h hs in omega (arith, room, places, sum);
        counts = λ less. by less (still.counts (below less));
        apart = still.apart.1;
      }
        where
          below : faults joined < last → faults r < last
          below less = omega (arith, less, total)

          by : faults joined < last → faults whole ≤ faults r → faults whole ≤ faults joined
          by less le = omega (arith, less, le, total)

  pub all_back : (whole r : D) → StillDivides whole r [] → IsRejoined devs moment state_at faults whole r
  all_back whole r still = record { devices = still.devices; same = λ p n has. still.same p n has refl; counts = still.counts }

  -- the same of a list whose first item was taken out
  module _ (whole r : D) (xs ys : List (HaltedView D)) (h : HaltedView D) (is : xs ≡ h ∷ ys) (x : D) (rack : x ≡ h.rack) (still : StillDivides whole r xs) where
    now_still : StillDivides whole r (h ∷ ys)
    now_still = subst (StillDivides whole r) is still

    pub apart_now : RacksApart devs r x
    apart_now = subst (RacksApart devs r) (sym rack) (none_of_it whole r h ys now_still)

    pub room_now : length (devs x) ≤ spare r
    room_now = subst (λ (y : D). length (devs y) ≤ spare r) (sym rack) (place_for_it whole r h ys now_still)

    pub more_now : (joined : D) → Joins devs moment state_at r x joined → spare r ≤ spare joined + length (devs x) → faults joined ≡ min (faults r + faults x) last → StillDivides whole joined ys
    more_now joined joins places total =
        one_back whole r h ys now_still joined (subst (λ (y : D). Joins devs moment state_at r y joined) rack joins) (subst (λ (y : D). spare r ≤ spare joined + length (devs y)) rack places) (total ∙ ap (λ (y : D). min (faults r + faults y) last) rack)

  pub none_left : (whole r : D) (xs : List (HaltedView D)) → xs ≡ [] → StillDivides whole r xs → IsRejoined devs moment state_at faults whole r
  none_left whole r xs is still = all_back whole r (subst (StillDivides whole r) is still)

pub empty : {A : Type 0} (xs : List A) (k end : ℕ) → length xs + k ≡ end → end ≤ k → xs ≡ []
empty [] k end size le = refl
empty (x ∷ xs) k end size le = absurd (omega (arith, size, le))
