-- A device with a header for one pool bears candidates of that pool alone.
use Rattle.std.proofs.Common.{◌≡◌, ◌≢◌, inl, inr, ℕ, ◌≤◌, Bool, true, false, cond, nat_eq, nat_lt, List, Option, Some, None, refl, sym, ◌∙◌, ap, arith}
use Rattle.std.proofs.lemmas.Bool.{cases_Bool}
use Rattle.std.proofs.lemmas.Bool.Decides.{nat_tests}
use Rattle.st_header.specs.Header.{header_of, IsHeader}
use Rattle.st_header.proofs.Headers.{grammar}
use Rattle.st_rack.specs.Story.{Content}
use Rattle.st_rack.specs.Device.{cells}
use Rattle.st_slots.specs.Reading.{newer, read_slot}
use Rattle.st_commit.specs.Standing.{keep}
use Rattle.st_image.specs.Looks.{has_header, is_serial, pool_area, slot_on}
use Rattle.st_image.specs.Bears.{candidate, newest_on}
use Rattle.st_image.specs.Rack.{IsSerial}
use Rattle.st_parting.proofs.Newest.{none_some}

same_number : (a b : ℕ) → nat_eq a b ≡ true → a ≡ b
same_number a b e = grind (arith, nat_tests)

number_same : (a b : ℕ) → a ≡ b → nat_eq a b ≡ true
number_same a b e = grind (arith, nat_tests)

is_it : (q : ℕ) (o : Option ℕ) → is_serial q o ≡ true → o ≡ Some q
is_it q None e = absurd (cc)
is_it q (Some n) e = ap (λ (k : ℕ). Some k) (same_number n q e)

pub header_is : (q n : ℕ) (f : Content) → has_header q n f ≡ true → header_of n (cells f 0 8192) ≡ Some q
header_is q n f has = is_it q (header_of n (cells f 0 8192)) has

header_right : (q n : ℕ) (f : Content) → has_header q n f ≡ true → IsHeader n (cells f 0 8192) q
header_right q n f has = grammar n (cells f 0 8192) (Some q) (sym (header_is q n f has))

pub header_serial : (q n : ℕ) (f : Content) → has_header q n f ≡ true → IsSerial q
header_serial q n f has = elim ((header_right q n f has).copy) [
  | inl first ↦ record { from = first.number.from; until = first.number.until }
  | inr second ↦ record { from = second.1.number.from; until = second.1.number.until }
]

-- the device is large enough for a pool, so its slots are read
pub slot_read : (q n place : ℕ) (f : Content) → has_header q n f ≡ true → slot_on n place f ≡ read_slot pool_area place f
slot_read q n place f has =
    let large : 8192 ≤ n = (header_right q n f has).large in
    ap (λ (b : Bool). cond b None (read_slot pool_area place f)) (not_less n large)
  where
    not_less : (n : ℕ) → 8192 ≤ n → nat_lt n 8192 ≡ false
    not_less n le = grind (arith, nat_tests)

pub other_header : (p q n : ℕ) (f : Content) → has_header p n f ≡ true → q ≢ p → has_header q n f ≡ false
other_header p q n f has ne = ap (is_serial q) (header_is p n f has) ∙ unlike (nat_eq p q) (λ e. ne (sym (same_number p q e)))
  where
    unlike : (b : Bool) → (b ≡ true → ⊥) → b ≡ false
    unlike true never = absurd (never refl)
    unlike false never = refl

pub no_candidate : (q n place : ℕ) (f : Content) → has_header q n f ≡ false → candidate q n place f ≡ None
no_candidate q n place f none = ap (λ (b : Bool). cond b (keep q (read_slot pool_area place f)) None) none

pub none_on : (q n : ℕ) (f : Content) → has_header q n f ≡ false → newest_on q n f ≡ None
none_on q n f none = λ i. newer (no_candidate q n 0 f none i) (no_candidate q n 1 f none i)

pub with_header : (q n place : ℕ) (f : Content) → has_header q n f ≡ true → candidate q n place f ≡ keep q (read_slot pool_area place f)
with_header q n place f has = ap (λ (b : Bool). cond b (keep q (read_slot pool_area place f)) None) has

-- a candidate stands on a device with the header, in a slot
pub candidate_has : (q n place : ℕ) (f : Content) (x : ℕ × List ℕ) → candidate q n place f ≡ Some x → has_header q n f ≡ true
candidate_has q n place f x is = elim (cases_Bool (has_header q n f)) [
  | inl has ↦ has
  | inr none ↦ absurd (none_some x (sym (no_candidate q n place f none) ∙ is))
]

pub candidate_slot : (q n place : ℕ) (f : Content) (x : ℕ × List ℕ) → candidate q n place f ≡ Some x → keep q (slot_on n place f) ≡ Some x
candidate_slot q n place f x is =
    let has = candidate_has q n place f x is in
    ap (keep q) (slot_read q n place f has) ∙ sym (with_header q n place f has) ∙ is
