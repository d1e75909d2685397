-- What a write into the place of one block makes of the device.
use Rattle.std.proofs.Common.{◌≡◌, ◌≢◌, inl, inr, ℕ, ◌+◌, ◌*◌, ◌/◌, ◌%◌, ◌<◌, ◌≤◌, Option, Some, None, List, length, get_or, refl, sym, ◌∙◌, ap, arith}
use Rattle.std.proofs.lemmas.Bool.{cases_lt}
use Rattle.st_rack.specs.Story.{Content, put_in}
use Rattle.st_blocks.specs.Kept.{byte_in, bytes_of}
use Rattle.st_blocks.proofs.Put.{put_in_below, put_in_above, put_moved}

abbrev pub held : List ℕ → Content
held room i = get_or room i 0

-- The room holds these bytes from `off` on in the place p, which is the place of block k; every other block is where it was, elsewhere.
module _ (places places' : List (Option ℕ)) (room room' : List ℕ) (k p off : ℕ) (bytes : List ℕ) (inside : off + length bytes ≤ 65536)
    (is : get_or places' k None ≡ Some p)
    (others : (j : ℕ) → j ≢ k → get_or places' j None ≡ get_or places j None)
    (was : (i : ℕ) → i < 65536 → byte_in (get_or places k None) room i ≡ get_or room (65536 * p + i) 0)
    (apart : (j q : ℕ) → j ≢ k → get_or places j None ≡ Some q → q ≢ p)
    (step : (i : ℕ) → get_or room' i 0 ≡ put_in (65536 * p + off) bytes (held room) i) where
  here : (i : ℕ) → i / 65536 ≡ k → bytes_of places' room' i ≡ put_in (65536 * k + off) bytes (bytes_of places room) i
  here i at =
      let r = i % 65536 in
      let small : r < 65536 = omega arith in
      let spelled : 65536 * k + r ≡ i = omega (arith, at) in
      let before : held room (65536 * p + r) ≡ bytes_of places room (65536 * k + r) =
      sym (was r small) ∙ ap (λ (j : ℕ). byte_in (get_or places j None) room r) (sym at) ∙ ap (bytes_of places room) (sym spelled) in
      ap (λ (j : ℕ). byte_in (get_or places' j None) room' r) at ∙ ap (λ (o : Option ℕ). byte_in o room' r) is ∙ step (65536 * p + r)
      ∙ put_moved (65536 * p) (65536 * k) off bytes (held room) (bytes_of places room) r before ∙ ap (put_in (65536 * k + off) bytes (bytes_of places room)) spelled

  -- another place
  kept_there : (q r : ℕ) → q ≢ p → r < 65536 → get_or room' (65536 * q + r) 0 ≡ get_or room (65536 * q + r) 0
  kept_there q r ne small = elim (cases_lt q p) [
    | inl low ↦ step (65536 * q + r) ∙ put_in_below (65536 * p + off) bytes (held room) (65536 * q + r) (omega (arith, low, small))
    | inr ge ↦ elim (cases_lt p q) [
      | inl high ↦ step (65536 * q + r) ∙ put_in_above (65536 * p + off) bytes (held room) (65536 * q + r) (omega (arith, high, inside))
      | inr le ↦ absurd (let same : q ≡ p = omega (arith, ge, le) in ne same)
    ]
  ]

  same_byte : (o : Option ℕ) (r : ℕ) → ((q : ℕ) → o ≡ Some q → q ≢ p) → r < 65536 → byte_in o room' r ≡ byte_in o room r
  same_byte None r ne small = refl
  same_byte (Some q) r ne small = kept_there q r (ne q refl) small

  elsewhere : (i : ℕ) → i / 65536 ≢ k → bytes_of places' room' i ≡ bytes_of places room i
  elsewhere i ne =
      let r = i % 65536 in
      let j = i / 65536 in
      let small : r < 65536 = omega arith in
      ap (λ (o : Option ℕ). byte_in o room' r) (others j ne) ∙ same_byte (get_or places j None) r (λ q there. apart j q ne there) small

  pub wrote : (i : ℕ) → bytes_of places' room' i ≡ put_in (65536 * k + off) bytes (bytes_of places room) i
  wrote i = elim (cases_lt (i / 65536) k) [
    | inl low ↦
        elsewhere i (λ e. absurd (omega (arith, e, low)))
        ∙ sym (put_in_below (65536 * k + off) bytes (bytes_of places room) i (omega (arith, low)))
    | inr ge ↦ elim (cases_lt k (i / 65536)) [
      | inl high ↦
          elsewhere i (λ e. absurd (omega (arith, e, high)))
          ∙ sym (put_in_above (65536 * k + off) bytes (bytes_of places room) i (omega (arith, high, inside)))
      | inr le ↦ here i (omega (arith, ge, le))
    ]
  ]
