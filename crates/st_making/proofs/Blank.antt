-- A device on which nothing was written is free for any pool.
use Rattle.std.proofs.Common.{◌≡◌, ◌⊎◌, inl, inr, ℕ, ◌*◌, ◌<◌, Bool, true, false, cond, List, ◌++◌, get_or, Some, None, refl, sym, ap, subst, arith}
use Rattle.st_fields.specs.Slot.{Found, slot_fields, slot_text}
use Rattle.st_fields.proofs.Slots.{sealed_of-is}
use Rattle.st_rack.proofs.Cells.{get_or-cells}
use Rattle.st_slots.specs.Places.{place_at}
use Rattle.st_slots.specs.Reading.{read_slot, bytes_at, newer}
use Rattle.st_slots.proofs.Places.{slot_is}
use Rattle.st_commit.specs.Standing.{keep}
use Rattle.st_image.specs.Looks.{pool_area, has_header}
use Rattle.st_image.specs.Bears.{newest_on}
use Rattle.st_image.specs.Kept.{NoneOrGone}
use Rattle.st_making.specs.Made.{IsFree, blank}

starts : (g : ℕ) (body rest : List ℕ) → get_or (slot_text pool_area.magic g body ++ rest) 0 0 ≡ 83
unfolding slot_fields
starts g body rest = refl

not_zero : (n m : ℕ) → n ≡ 0 → m ≡ 83 → n ≡ m → ⊥
not_zero n m zero_n is same = absurd (omega (arith, zero_n, is, same))

some_bytes : 0 < 512 * 64
some_bytes = omega arith

none_or_some : (o : Found) → (o ≡ None) ⊎ ((x : ℕ × List ℕ) × (o ≡ Some x))
none_or_some None = inl refl
none_or_some (Some x) = inr (x, refl)

no_slot : (r : ℕ) → read_slot pool_area r blank.holds ≡ None
no_slot r = elim (none_or_some (read_slot pool_area r blank.holds)) [
  | inl none ↦ none
  | inr found ↦
      let sealed = sealed_of-is pool_area.magic (bytes_at pool_area r blank.holds) found.0 (slot_is pool_area r blank.holds found.0 found.1).0 in
      let bytes = bytes_at pool_area r blank.holds in
      absurd (not_zero (get_or bytes 0 0) (get_or (slot_text pool_area.magic found.0.0 found.0.1 ++ sealed.rest) 0 0) (get_or-cells blank.holds (place_at pool_area r) (512 * 64) 0 some_bytes) (starts found.0.0 found.0.1 sealed.rest)
      (ap (λ (l : List ℕ). get_or l 0 0) sealed.spelled))
]

either_none : (b : Bool) (o : Found) → o ≡ None → cond b o None ≡ None
either_none true o none = none
either_none false o none = refl

pub blank_free : (p sectors : ℕ) → IsFree p sectors blank
blank_free p sectors = record {
  settled = record { meant = λ m is. is; sure = λ i. refl };
  no_slot = λ r lt. ap (keep p) (no_slot r);
  alone = λ q. subst NoneOrGone (sym (none q)) tt;
}
  where
    none : (q : ℕ) → newest_on q sectors blank.holds ≡ None
    none q =
        let one = either_none (has_header q sectors blank.holds) (keep q (read_slot pool_area 0 blank.holds)) (ap (keep q) (no_slot 0)) in
        let two = either_none (has_header q sectors blank.holds) (keep q (read_slot pool_area 1 blank.holds)) (ap (keep q) (no_slot 1)) in
        (λ i. newer (one i) (two i))
