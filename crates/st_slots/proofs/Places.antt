-- A slot that is read in the place of its generation.
use Rattle.std.proofs.Common.{◌≡◌, inl, inr, ℕ, ◌%◌, Bool, true, cond, nat_eq, List, Some, None, sym, ◌∙◌, ap, subst, arith}
use Rattle.std.proofs.lemmas.Bool.{cases_Bool}
use Rattle.std.proofs.lemmas.Bool.Decides.{nat_tests}
use Rattle.st_fields.specs.Slot.{Found}
use Rattle.st_rack.specs.Story.{Content}
use Rattle.st_slots.specs.declared.spot.Area.{Area}
use Rattle.st_slots.specs.Reading.{read_any, read_slot, of_place}

eq_of : (a b : ℕ) → nat_eq a b ≡ true → a ≡ b
eq_of a b is = grind (arith, nat_tests)

eq_true : (a b : ℕ) → a ≡ b → nat_eq a b ≡ true
eq_true a b is = grind (arith, nat_tests)

some_same : (a b : ℕ × List ℕ) → Some a ≡ Some b → a ≡ b
some_same a b e = cc

none_is_no_some : (x : ℕ × List ℕ) → None ≡ Some x → ⊥
none_is_no_some x e = cc

-- What passes the filter was there, and in its place.
pub of_place_is : (place : ℕ) (o : Found) (x : ℕ × List ℕ) → of_place place o ≡ Some x → (o ≡ Some x) × (x.0 % 2 ≡ place)
of_place_is place None x is = absurd (cc)
of_place_is place (Some y) x is = elim (cases_Bool (nat_eq (y.0 % 2) place)) [
  | inl hit ↦
      let same : y ≡ x = some_same y x (sym (ap (λ (b : Bool). cond b (Some y) None) hit) ∙ is) in
      (ap (λ (z : ℕ × List ℕ). Some z) same, subst (λ (z : ℕ × List ℕ). z.0 % 2 ≡ place) same (eq_of (y.0 % 2) place hit))
  | inr miss ↦ absurd (none_is_no_some x (sym (ap (λ (b : Bool). cond b (Some y) None) miss) ∙ is))
]

-- What is in its place passes it.
pub in_its_place : (place : ℕ) (x : ℕ × List ℕ) → x.0 % 2 ≡ place → of_place place (Some x) ≡ Some x
in_its_place place x is = ap (λ (b : Bool). cond b (Some x) None) (eq_true (x.0 % 2) place is)

pub slot_is : (area : Area) (place : ℕ) (f : Content) (x : ℕ × List ℕ) → read_slot area place f ≡ Some x → (read_any area place f ≡ Some x) × (x.0 % 2 ≡ place)
slot_is area place f x is = of_place_is place (read_any area place f) x is

pub slot_of_any : (area : Area) (place : ℕ) (f : Content) (x : ℕ × List ℕ) → read_any area place f ≡ Some x → x.0 % 2 ≡ place → read_slot area place f ≡ Some x
slot_of_any area place f x is there = ap (of_place place) is ∙ in_its_place place x there
