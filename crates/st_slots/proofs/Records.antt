-- What is read of a slot is what stands in it.
use Rattle.std.proofs.Common.{◌≡◌, ◌⊎◌, inl, inr, ℕ, ◌+◌, ◌-◌, ◌*◌, ◌/◌, ◌^◌, ◌≤◌, Bool, true, false, cond, List, ◌++◌, length, take, drop, Some, None, refl, sym, ◌∙◌, ap, subst, arith, length-append}
use Rattle.std.proofs.lemmas.Bool.{cases_Bool, true≢false}
use Rattle.std.proofs.lemmas.List.{take-append-le, drop-append-le, length-take-le, length-drop, take_at}
use Rattle.std.proofs.lemmas.Slice.Eq.{bytes_eq-Decides}
use Rattle.st_fields.specs.Fields.{digest}
use Rattle.st_fields.specs.Slot.{Found, IsSealed, slot_fields, slot_seal, slot_text, sealed_of, padded, length_in}
use Rattle.st_fields.proofs.Slots.{sealed_of-is, is-sealed_of, text_of_parts, fields_of, seal_of, body_of, length-slot_text, length_in-fields}
use Rattle.st_rack.specs.Story.{Content}
use Rattle.st_rack.specs.Device.{cells}
use Rattle.st_rack.proofs.Cells.{length-cells, cells-add}
use Rattle.st_slots.specs.declared.spot.Area.{Area}
use Rattle.st_slots.specs.Places.{place_at}
use Rattle.st_slots.specs.Reading.{bytes_at, read_any, IsHead, has_seal, sealed_in}

none_or_some : (o : Found) → (o ≡ None) ⊎ ((x : ℕ × List ℕ) × (o ≡ Some x))
none_or_some None = inl refl
none_or_some (Some x) = inr (x, refl)

-- The first bytes of a slot.
begins : (area : Area) (place n : ℕ) (f : Content) → n ≤ 512 * area.slot
    → bytes_at area place f ≡ cells f (place_at area place) n ++ cells f (place_at area place + n) (512 * area.slot - n)
begins area place n f le =
    let whole : 512 * area.slot ≡ n + (512 * area.slot - n) = omega arith in
    ap (cells f (place_at area place)) whole ∙ cells-add f (place_at area place) n (512 * area.slot - n)

-- A valid slot has a sound head.
module _ (area : Area) (place : ℕ) (f : Content) (x : ℕ × List ℕ) (eight : length area.magic ≡ 8) (slot : IsSealed area.magic (bytes_at area place f) x.0 x.1) where
  body_fits : 64 + length x.1 ≤ 512 * area.slot
  body_fits =
      let text : List ℕ = slot_text area.magic x.0 x.1 in
      omega (arith, ap length slot.spelled, length-append text slot.rest, length-slot_text area.magic x.1 slot.rest x.0 eight, length-cells f (place_at area place) (512 * area.slot))

  fields_in : (n : ℕ) → 32 ≤ n → n ≤ 512 * area.slot → take 32 (cells f (place_at area place) n) ≡ slot_fields area.magic x.0 (length x.1)
  fields_in n some le =
      let first : List ℕ = cells f (place_at area place) n in
      let size : 32 ≤ length first = omega (arith, length-cells f (place_at area place) n) in
      sym (take-append-le 32 first (cells f (place_at area place + n) (512 * area.slot - n)) size)
      ∙ ap (take 32) (sym (begins area place n f le) ∙ slot.spelled)
      ∙ fields_of area.magic x.1 slot.rest x.0 eight

  head_in : 1 ≤ area.slot → IsHead area (cells f (place_at area place) 512) x.0 (length x.1)
  head_in some = record { from = slot.from; until = slot.until; fits = body_fits; spelled = fields_in 512 (omega arith) (omega arith) }

-- Where no head is sound, no slot is valid.
pub unsound : (area : Area) (place : ℕ) (f : Content) → length area.magic ≡ 8 → 1 ≤ area.slot
    → ((g n : ℕ) → ¬ IsHead area (cells f (place_at area place) 512) g n) → None ≡ read_any area place f
unsound area place f eight some no_head = elim (none_or_some (read_any area place f)) [
  | inl nothing ↦ sym nothing
  | inr found ↦
      let x = found.0 in
      let slot = sealed_of-is area.magic (bytes_at area place f) x found.1 in
      absurd (no_head x.0 (length x.1) (head_in area place f x eight slot some))
]

-- Where the head is sound, the seal decides.
module _ (area : Area) (place : ℕ) (f : Content) (g n : ℕ) (eight : length area.magic ≡ 8) (some : 1 ≤ area.slot) (small : area.slot ≤ 2 ^ 32)
    (head : IsHead area (cells f (place_at area place) 512) g n) where
  abbrev m : ℕ
  m = padded (64 + n)

  abbrev part : List ℕ
  part = cells f (place_at area place) m

  abbrev more : List ℕ
  more = cells f (place_at area place + m) (512 * area.slot - m)

  abbrev whole : List ℕ
  whole = bytes_at area place f

  abbrev body : List ℕ
  body = take n (drop 64 part)

  within : m ≤ 512 * area.slot
  within = let fits = head.fits in let up : (64 + n + 511) / 512 ≤ area.slot = omega arith in omega arith

  long : 64 + n ≤ length part
  long = omega (arith, length-cells f (place_at area place) m)

  parted : whole ≡ part ++ more
  parted = begins area place m f within

  fields_same : take 32 whole ≡ take 32 part
  fields_same = ap (take 32) parted ∙ take-append-le 32 part more (omega (arith, long))

  seal_same : take 32 (drop 32 whole) ≡ take 32 (drop 32 part)
  seal_same =
      ap (λ (l : List ℕ). take 32 (drop 32 l)) parted ∙ ap (take 32) (drop-append-le 32 part more (omega (arith, long)))
      ∙ take-append-le 32 (drop 32 part) more (omega (arith, long, length-drop 32 part))

  body_same : take n (drop 64 whole) ≡ body
  body_same =
      ap (λ (l : List ℕ). take n (drop 64 l)) parted ∙ ap (take n) (drop-append-le 64 part more (omega (arith, long)))
      ∙ take-append-le n (drop 64 part) more (omega (arith, long, length-drop 64 part))

  size : length body ≡ n
  size = length-take-le n (drop 64 part) (omega (arith, long, length-drop 64 part))

  fields_right : take 32 whole ≡ slot_fields area.magic g n
  fields_right =
      let first : List ℕ = cells f (place_at area place) 512 in
      let rest : List ℕ = cells f (place_at area place + 512) (512 * area.slot - 512) in
      ap (take 32) (begins area place 512 f (omega arith)) ∙ take-append-le 32 first rest (omega (arith, length-cells f (place_at area place) 512)) ∙ head.spelled

  -- the test of the seal is that of the grammar
  message : digest (take 32 part ++ body) ≡ slot_seal area.magic g body
  message = (λ i. digest ((sym fields_same ∙ fields_right ∙ ap (slot_fields area.magic g) (sym size)) i ++ body))

  right : has_seal part n ≡ true → sealed_of area.magic whole ≡ Some (g, body)
  right good =
      let tested = (bytes_eq-Decides (take 32 (drop 32 part)) (digest (take 32 part ++ body))).0 good in
      let spelled = text_of_parts area.magic body whole g (fields_right ∙ ap (slot_fields area.magic g) (sym size)) (seal_same ∙ tested ∙ message)
      (subst (λ (k : ℕ). take k (drop 64 whole) ≡ body) (sym size) body_same) in
      is-sealed_of area.magic whole g body eight (omega (arith, size, head.fits))
      (record { from = head.from; until = head.until; rest = drop (64 + length body) whole; spelled = spelled })

  wrong : has_seal part n ≡ false → sealed_of area.magic whole ≡ None
  wrong bad = elim (none_or_some (sealed_of area.magic whole)) [
    | inl nothing ↦ nothing
    | inr found ↦ absurd (not_valid found.0 (sealed_of-is area.magic whole found.0 found.1))
  ]
    where
      not_valid : (x : ℕ × List ℕ) → IsSealed area.magic whole x.0 x.1 → ⊥
      not_valid x slot =
          let fields : take 32 whole ≡ slot_fields area.magic x.0 (length x.1) = ap (take 32) slot.spelled ∙ fields_of area.magic x.1 slot.rest x.0 eight in
          let count : length x.1 ≡ n =
          sym (length_in-fields area.magic (drop 32 whole) x.0 (length x.1) eight (omega (arith, body_fits area place f x eight slot)))
          ∙ ap (λ (l : List ℕ). length_in (l ++ drop 32 whole)) (sym fields ∙ fields_right) ∙ length_in-fields area.magic (drop 32 whole) g n eight (omega (arith, head.fits)) in
          let inner : x.1 ≡ body = sym (ap (λ (l : List ℕ). take (length x.1) (drop 64 l)) slot.spelled ∙ ap (take (length x.1)) (body_of area.magic x.1 slot.rest x.0 eight) ∙ take_at x.1 slot.rest (length x.1) refl)
          ∙ ap (λ (k : ℕ). take k (drop 64 whole)) count ∙ body_same in
          let sealed : take 32 (drop 32 part) ≡ digest (take 32 part ++ body) =
          sym seal_same ∙ ap (λ (l : List ℕ). take 32 (drop 32 l)) slot.spelled ∙ seal_of area.magic x.1 slot.rest x.0 eight
          ∙ (λ i. digest ((sym fields ∙ fields_same) i ++ inner i)) in
          true≢false (sym ((bytes_eq-Decides (take 32 (drop 32 part)) (digest (take 32 part ++ body))).1 sealed) ∙ bad)

  pub sealed_is : sealed_in part g n ≡ read_any area place f
  sealed_is = elim (cases_Bool (has_seal part n)) [
    | inl good ↦ ap (λ (b : Bool). cond b (Some (g, body)) None) good ∙ sym (right good)
    | inr bad ↦ ap (λ (b : Bool). cond b (Some (g, body)) None) bad ∙ sym (wrong bad)
  ]
