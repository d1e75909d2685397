-- A device to which the record of a pool that is gone is being written shows nothing else of another pool.
use Rattle.std.proofs.Common.{◌≡◌, ◌≢◌, ◌⊎◌, inl, inr, ℕ, zero, suc, ◌+◌, ◌*◌, ◌%◌, ◌<◌, ◌≤◌, Bool, true, false, ◌&&◌, cond, nat_eq, List, Some, None, refl, sym, ◌∙◌, ap, subst, arith}
use Rattle.std.specs.Prelude.{not}
use Rattle.std.specs.Str.{bytes_eq}
use Rattle.std.proofs.lemmas.Bool.{and_parts, cases_Bool}
use Rattle.std.proofs.lemmas.Bool.Decides.{nat_tests}
use Rattle.std.proofs.lemmas.Slice.Eq.{bytes_eq-Decides}
use Rattle.st_fields.specs.Slot.{Found, sealed_of}
use Rattle.st_header.specs.Header.{header_of}
use Rattle.st_rack.specs.Story.{Content}
use Rattle.st_rack.specs.Device.{cells}
use Rattle.st_rack.proofs.Cells.{cells_same}
use Rattle.st_slots.specs.Reading.{of_place, read_slot}
use Rattle.st_commit.specs.Standing.{keep}
use Rattle.st_deltalog.specs.Log.{serial_in}
use Rattle.st_judge.specs.Placing.{holds}
use Rattle.st_image.specs.Looks.{has_header, is_serial, pool_area}
use Rattle.st_parting.proofs.Newest.{none_some}
use Rattle.st_finishing.specs.Finishing.{IsBeingWritten}

two_places : (n : ℕ) → n < 2 → (n ≡ 0) ⊎ (n ≡ 1)
two_places zero lt = inl refl
two_places (suc zero) lt = inr refl
two_places (suc (suc n)) lt = absurd (omega arith)

module _ (g : ℕ) (body : List ℕ) (a f : Content) (written : IsBeingWritten g body a f) where
  -- the header lies before the slots
  pub header_same : (n : ℕ) → header_of n (cells f 0 8192) ≡ header_of n (cells a 0 8192)
  header_same n = ap (header_of n) (cells_same f a 0 8192 (λ i low high. written.same i (inl (below i high))))
    where
      below : (i : ℕ) → i < 0 + 8192 → i < 512 * (16 + g % 2 * 64)
      below i high = omega (arith, high)

  pub has_same : (p n : ℕ) → has_header p n f ≡ has_header p n a
  has_same p n = ap (is_serial p) (header_same n)

  -- the other slot stays
  pub other_slot : (place : ℕ) → place < 2 → place ≢ g % 2 → read_slot pool_area place f ≡ read_slot pool_area place a
  other_slot place lt ne = ap (λ (l : List ℕ). of_place place (sealed_of pool_area.magic l)) (cells_same f a (512 * (16 + place * 64)) 32768 (λ i low high. written.same i (outside i low high)))
    where
      outside : (i : ℕ) → 512 * (16 + place * 64) ≤ i → i < 512 * (16 + place * 64) + 32768 → (i < 512 * (16 + g % 2 * 64)) ⊎ (512 * (16 + g % 2 * 64) + 512 * 64 ≤ i)
      outside i low high = elim (two_places place lt) [
        | inl e ↦ elim (two_places (g % 2) (omega arith)) [
          | inl same ↦ absurd (ne (e ∙ sym same))
          | inr one ↦ inl (omega (arith, e, one, high))
        ]
        | inr e ↦ elim (two_places (g % 2) (omega arith)) [
          | inl none ↦ inr (omega (arith, e, none, low))
          | inr same ↦ absurd (ne (e ∙ sym same))
        ]
      ]

  same_or_not : (x y : ℕ) → (x ≡ y) ⊎ (x ≢ y)
  same_or_not x y = elim (cases_Bool (nat_eq x y)) [
    | inl e ↦ inl (is x y e)
    | inr ne ↦ inr (λ same. clash (nat_eq x y) (is_same x y same) ne)
  ]
    where
      is : (x y : ℕ) → nat_eq x y ≡ true → x ≡ y
      is x y e = grind (arith, nat_tests)

      is_same : (x y : ℕ) → x ≡ y → nat_eq x y ≡ true
      is_same x y e = grind (arith, nat_tests)

      clash : (b : Bool) → b ≡ true → b ≡ false → ⊥
      clash b t f = cc

  -- each slot reads as nothing, as before, or as the record
  pub slot_torn : (place : ℕ) → place < 2 → (read_slot pool_area place f ≡ None) ⊎ ((read_slot pool_area place f ≡ read_slot pool_area place a) ⊎ ((place ≡ g % 2) × (read_slot pool_area place f ≡ Some (g, body))))
  slot_torn place lt = elim (same_or_not place (g % 2)) [
    | inl here ↦ subst (λ (q : ℕ). (read_slot pool_area q f ≡ None) ⊎ ((read_slot pool_area q f ≡ read_slot pool_area q a) ⊎ ((q ≡ g % 2) × (read_slot pool_area q f ≡ Some (g, body))))) (sym here) (elim written.torn [
      | inl none ↦ inl none
      | inr (inl before) ↦ inr (inl before)
      | inr (inr is) ↦ inr (inr (refl, is))
    ])
    | inr other ↦ inr (inl (other_slot place lt other))
  ]

-- what is kept was found
pub kept_found : (q : ℕ) (found : Found) (x : ℕ × List ℕ) → keep q found ≡ Some x → found ≡ Some x
kept_found q None x is = absurd (none_some x is)
kept_found q (Some y) x is = by (nat_eq (serial_in y.1) q) is
  where
    by : (b : Bool) → cond b (Some y) None ≡ Some x → Some y ≡ Some x
    by true at = at
    by false at = absurd (none_some x at)

-- a record that is kept begins with the serial
pub not_kept : (p : ℕ) (x : ℕ × List ℕ) → (serial_in x.1 ≡ p → ⊥) → keep p (Some x) ≡ None
not_kept p x ne = elim (cases_Bool (nat_eq (serial_in x.1) p)) [
  | inl e ↦ absurd (ne (is (serial_in x.1) p e))
  | inr other ↦ ap (λ (b : Bool). cond b (Some x) None) other
]
  where
    is : (x y : ℕ) → nat_eq x y ≡ true → x ≡ y
    is x y e = grind (arith, nat_tests)

-- what isn't lacked is there
pub held_there : (g : ℕ) (body : List ℕ) (found : Found) → not (holds (g, body) found) ≡ false → found ≡ Some (g, body)
held_there g body None e = absurd (cc)
held_there g body (Some y) e =
    let both = and_parts (nat_eq y.0 g) (bytes_eq y.1 body) (turned (nat_eq y.0 g && bytes_eq y.1 body) e) in
    let number : y.0 ≡ g = is y.0 g both.0 in
    let text : y.1 ≡ body = (bytes_eq-Decides y.1 body).0 both.1 in
    λ i. Some (number i, text i)
  where
    turned : (b : Bool) → not b ≡ false → b ≡ true
    turned true e = refl
    turned false e = absurd (cc)

    is : (x y : ℕ) → nat_eq x y ≡ true → x ≡ y
    is x y e = grind (arith, nat_tests)

pub lacks_it : (g : ℕ) (body : List ℕ) (found : Found) → not (holds (g, body) found) ≡ true → found ≡ Some (g, body) → ⊥
lacks_it g body found e is = clash (nat_eq g g && bytes_eq body body) (subst (λ (o : Found). not (holds (g, body) o) ≡ true) is e) (and_both (nat_eq g g) (bytes_eq body body) (number g) ((bytes_eq-Decides body body).1 refl))
  where
    clash : (b : Bool) → not b ≡ true → b ≡ true → ⊥
    clash b n t = cc

    and_both : (x y : Bool) → x ≡ true → y ≡ true → (x && y) ≡ true
    and_both true true e f = refl
    and_both true false e f = absurd (cc)
    and_both false y e f = absurd (cc)

    number : (n : ℕ) → nat_eq n n ≡ true
    number n = grind (arith, nat_tests)
