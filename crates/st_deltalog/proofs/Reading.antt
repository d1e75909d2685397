-- What a content reads as a log.
use Rattle.std.proofs.Common.{◌≡◌, inl, inr, ℕ, zero, suc, ◌+◌, ◌-◌, ◌*◌, ◌^◌, ◌<◌, ◌≤◌, Bool, true, false, ◌&&◌, cond, nat_le, nat_lt, nat_eq, List, length, Some, None, refl, sym, ◌∙◌, ap, subst, arith}
use Rattle.std.proofs.lemmas.Bool.{cases_Bool}
use Rattle.std.proofs.lemmas.Bool.Decides.{nat_tests}
use Rattle.st_fields.specs.Slot.{Found, sector_of}
use Rattle.st_rack.specs.Story.{Content}
use Rattle.st_rack.proofs.Cells.{cells_same}
use Rattle.st_slots.specs.Places.{place_at}
use Rattle.st_slots.proofs.Texts.{any_same}
use Rattle.st_deltalog.specs.declared.area.FlexArea.{FlexArea}
use Rattle.st_deltalog.specs.Log.{Log, serial_in, sectors_of, next_of, checkpoint_in, sector_at, delta_in, body_at, put_on, deltas_in, usable, begun, later, with_deltas, followed, log_at}
use Rattle.st_deltalog.specs.Bearing.{other, Loses, Holds}

-- The deltas are read as long as their sectors stay.
pub delta_same : (flex : FlexArea) (slot k : ℕ) (f h : Content) → ((i : ℕ) → sector_at flex slot k ≤ i → i < sector_at flex slot k + 512 → f i ≡ h i) → delta_in flex slot k f ≡ delta_in flex slot k h
delta_same flex slot k f h same = ap (λ (l : List ℕ). cond (nat_lt k flex.area.slot) (sector_of flex.delta l) None) (cells_same f h (sector_at flex slot k) 512 same)

pub deltas_same : (flex : FlexArea) (slot m c n : ℕ) (f h : Content) → ((i : ℕ) → sector_at flex slot m ≤ i → i < sector_at flex slot (m + n) → f i ≡ h i) → deltas_in flex slot m c n f ≡ deltas_in flex slot m c n h
deltas_same flex slot m c zero f h same = refl
deltas_same flex slot m c (suc n) f h same =
    let here = delta_same flex slot (m + n) f h (λ i low high. same i (omega arith) (omega arith)) in
    let rest = deltas_same flex slot m c n f h (λ i low high. same i low (omega arith)) in
    (λ j. put_on (body_at (c + suc n) (here j)) (rest j))

-- What a content holds, another holds that has the same bytes from the checkpoint to the last delta.
pub holds_same : (flex : FlexArea) (p g : ℕ) (log : Log) (f h : Content) → length flex.area.magic ≡ 8 → flex.area.slot ≤ 2 ^ 32
    → ((i : ℕ) → place_at flex.area log.slot ≤ i → i < place_at flex.area log.slot + 512 * next_of log → f i ≡ h i) → Holds flex p g log f → Holds flex p g log h
holds_same flex p g log f h eight small same held = record {
  of_two = held.of_two;
  serial = held.serial;
  counted = held.counted;
  checkpoint = any_same flex.area log.slot f h (log.start, log.body) eight small held.checkpoint (λ i low high. same i low (omega (arith, high, covers)));
  deltas = sym (deltas_same flex log.slot (sectors_of log.body) log.start (length log.deltas) f h (λ i low high. same i (omega arith) (omega arith))) ∙ held.deltas;
}
  where
    covers : 64 + length log.body ≤ 512 * next_of log
    covers = omega arith

-- Which checkpoint is taken.
le_true : (a b : ℕ) → a ≤ b → nat_le a b ≡ true
le_true a b le = grind (arith, nat_tests)

eq_true : (a b : ℕ) → a ≡ b → nat_eq a b ≡ true
eq_true a b is = grind (arith, nat_tests)

pub usable_is : (p g : ℕ) (x : ℕ × List ℕ) → serial_in x.1 ≡ p → x.0 ≤ g → usable p g (Some x) ≡ Some x
usable_is p g x serial le =
    let a = eq_true (serial_in x.1) p serial in
    let b = le_true x.0 g le in
    (λ i. cond (a i && b i) (Some x) None)

both_true : (a b : Bool) → (a && b) ≡ true → (a ≡ true) × (b ≡ true)
both_true true b is = (refl, is)
both_true false b is = absurd (cc)

le_of : (a b : ℕ) → nat_le a b ≡ true → a ≤ b
le_of a b is = grind (arith, nat_tests)

eq_of : (a b : ℕ) → nat_eq a b ≡ true → a ≡ b
eq_of a b is = grind (arith, nat_tests)

pub usable_loses : (p g slot c : ℕ) (o : Found) → Loses p g slot c o → (y : ℕ × List ℕ) → usable p g o ≡ Some y → y.0 < c + slot
usable_loses p g slot c None loses y is = absurd (cc)
usable_loses p g slot c (Some x) loses y is = elim (cases_Bool (nat_eq (serial_in x.1) p && nat_le x.0 g)) [
  | inl good ↦
      let both = both_true (nat_eq (serial_in x.1) p) (nat_le x.0 g) good in
      let lt : x.0 < c + slot = loses x refl (eq_of (serial_in x.1) p both.0) (le_of x.0 g both.1) in
      let same : x ≡ y = some_same x y (sym (ap (λ (b : Bool). cond b (Some x) None) good) ∙ is) in
      subst (λ (z : ℕ × List ℕ). z.0 < c + slot) same lt
  | inr bad ↦ absurd (none_some y (sym (ap (λ (b : Bool). cond b (Some x) None) bad) ∙ is))
]
  where
    some_same : (a b : ℕ × List ℕ) → Some a ≡ Some b → a ≡ b
    some_same a b e = cc

    none_some : (y : ℕ × List ℕ) → None ≡ Some y → ⊥
    none_some y e = cc

later_first : (x : ℕ × List ℕ) (o : Found) → ((y : ℕ × List ℕ) → o ≡ Some y → y.0 < x.0) → later (Some x) o ≡ Some (begun 0 x)
later_first x None below = refl
later_first x (Some y) below =
    let lt = below y refl in
    let less : nat_lt y.0 x.0 ≡ true = grind (arith, nat_tests) in
    ap (λ (b : Bool). cond b (Some (begun 0 x)) (Some (begun 1 y))) less

later_second : (o : Found) (y : ℕ × List ℕ) → ((x : ℕ × List ℕ) → o ≡ Some x → x.0 < y.0 + 1) → later o (Some y) ≡ Some (begun 1 y)
later_second None y below = refl
later_second (Some x) y below =
    let lt = below x refl in
    let not_less : nat_lt y.0 x.0 ≡ false = grind (arith, nat_tests) in
    ap (λ (b : Bool). cond b (Some (begun 0 x)) (Some (begun 1 y))) not_less

-- the checkpoint in this slot is taken, where the other one loses
chosen : (flex : FlexArea) (p g slot : ℕ) (x : ℕ × List ℕ) (f : Content) → slot < 2 → serial_in x.1 ≡ p → x.0 ≤ g → checkpoint_in flex slot f ≡ Some x → Loses p g slot x.0 (checkpoint_in flex (other slot) f)
    → later (usable p g (checkpoint_in flex 0 f)) (usable p g (checkpoint_in flex 1 f)) ≡ Some (begun slot x)
chosen flex p g zero x f lt serial le is loses =
    ap (λ (o : Found). later o (usable p g (checkpoint_in flex 1 f))) (ap (usable p g) is ∙ usable_is p g x serial le)
    ∙ later_first x (usable p g (checkpoint_in flex 1 f)) (λ y found. (let lt = usable_loses p g 0 x.0 (checkpoint_in flex 1 f) loses y found in omega (arith, lt)))
chosen flex p g (suc zero) x f lt serial le is loses =
    ap (λ (o : Found). later (usable p g (checkpoint_in flex 0 f)) o) (ap (usable p g) is ∙ usable_is p g x serial le)
    ∙ later_second (usable p g (checkpoint_in flex 0 f)) x (λ y found. usable_loses p g 1 x.0 (checkpoint_in flex 0 f) loses y found)
chosen flex p g (suc (suc k)) x f lt serial le is loses = absurd (omega arith)

-- A content that holds a log reads as it, where the other slot loses.
pub log_is : (flex : FlexArea) (p g : ℕ) (log : Log) (f : Content) → Holds flex p g log f → Loses p g log.slot log.start (checkpoint_in flex (other log.slot) f) → log_at flex p g f ≡ Some log
unfolding log_at
log_is flex p g log f held loses =
    let counted = held.counted in
    let n : g - log.start ≡ length log.deltas = omega arith in
    ap (followed flex g f) (chosen flex p g log.slot (log.start, log.body) f held.of_two held.serial (omega arith) held.checkpoint loses)
    ∙ ap (λ (k : ℕ). with_deltas (begun log.slot (log.start, log.body)) (deltas_in flex log.slot (sectors_of log.body) log.start k f)) n
    ∙ ap (with_deltas (begun log.slot (log.start, log.body))) held.deltas
