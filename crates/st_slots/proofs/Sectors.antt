-- What a sector reads as, by its head.
use Rattle.std.proofs.Common.{◌≡◌, ◌≢◌, ◌⊎◌, inl, inr, ℕ, ◌+◌, ◌^◌, ◌<◌, ◌≤◌, List, length, take, drop, Some, None, refl, sym, ◌∙◌, ap, arith}
use Rattle.std.proofs.lemmas.List.{take_at}
use Rattle.st_fields.specs.Slot.{Found, slot_bytes, sector_of, generation_in, length_in}
use Rattle.st_fields.proofs.Slots.{sealed_of-is, fields_of, generation_of, count_of, body_of}
use Rattle.st_fields.proofs.Sectors.{sector_of-is, sector_of-bytes}
use Rattle.st_slots.specs.declared.spot.Area.{Area}
use Rattle.st_slots.specs.Reading.{IsHead}
use Rattle.st_slots.proofs.Texts.{length-slot_bytes}
use Rattle.st_slots.proofs.Heads.{says_generation, says_length}

-- a slot of one sector
abbrev pub one : List ℕ → Area
one magic = record { at = 0; slot = 1; magic = magic }

none_or_some : (o : Found) → (o ≡ None) ⊎ ((x : ℕ × List ℕ) × (o ≡ Some x))
none_or_some None = inl refl
none_or_some (Some x) = inr (x, refl)

module _ (magic bytes : List ℕ) (eight : length magic ≡ 8) (size : length bytes ≡ 512) where
  fits : (x : ℕ × List ℕ) → bytes ≡ slot_bytes magic x.0 x.1 → 64 + length x.1 ≤ 512
  fits x is = omega (arith, ap length is, length-slot_bytes magic x.1 x.0 eight)

  head_of : (x : ℕ × List ℕ) → sector_of magic bytes ≡ Some x → IsHead (one magic) bytes x.0 (length x.1)
  head_of x is =
      let both = sector_of-is magic bytes x is in
      let sealed = sealed_of-is magic bytes x both.0 in
      let le = fits x both.1 in
      record { from = sealed.from; until = sealed.until; fits = omega arith; spelled = ap (take 32) sealed.spelled ∙ fields_of magic x.1 sealed.rest x.0 eight }

  pub no_head : ((g n : ℕ) → ¬ IsHead (one magic) bytes g n) → None ≡ sector_of magic bytes
  no_head none = elim (none_or_some (sector_of magic bytes)) [
    | inl nothing ↦ sym nothing
    | inr found ↦ absurd (none found.0.0 (length found.0.1) (head_of found.0 found.1))
  ]

  pub not_again : (g n : ℕ) → IsHead (one magic) bytes g n → bytes ≢ slot_bytes magic g (take n (drop 64 bytes)) → None ≡ sector_of magic bytes
  not_again g n head differ = elim (none_or_some (sector_of magic bytes)) [
    | inl nothing ↦ sym nothing
    | inr found ↦ absurd (differ (again found.0 found.1))
  ]
    where
      again : (x : ℕ × List ℕ) → sector_of magic bytes ≡ Some x → bytes ≡ slot_bytes magic g (take n (drop 64 bytes))
      again x is =
          let both = sector_of-is magic bytes x is in
          let sealed = sealed_of-is magic bytes x both.0 in
          let le = fits x both.1 in
          let low : x.0 < 2 ^ 64 = omega (arith, sealed.until) in
          let generation : x.0 ≡ g = sym (ap generation_in sealed.spelled ∙ generation_of magic x.1 sealed.rest x.0 eight low) ∙ says_generation (one magic) bytes g n eight (omega arith) head in
          let count : length x.1 ≡ n = sym (ap length_in sealed.spelled ∙ count_of magic x.1 sealed.rest x.0 eight (omega arith)) ∙ says_length (one magic) bytes g n eight (omega arith) head in
          let inner : take (length x.1) (drop 64 bytes) ≡ x.1 = ap (λ (l : List ℕ). take (length x.1) (drop 64 l)) sealed.spelled ∙ ap (take (length x.1)) (body_of magic x.1 sealed.rest x.0 eight) ∙ take_at x.1 sealed.rest (length x.1) refl in
          both.1 ∙ (λ i. slot_bytes magic (generation i) ((sym inner ∙ ap (λ (k : ℕ). take k (drop 64 bytes)) count) i))

  pub is_again : (g : ℕ) (body : List ℕ) → 1 ≤ g → g ≤ 2 ^ 48 → bytes ≡ slot_bytes magic g body → Some (g, body) ≡ sector_of magic bytes
  is_again g body from until is =
      let le = fits (g, body) is in
      sym (ap (sector_of magic) is ∙ sector_of-bytes magic g body eight from until (omega arith))
