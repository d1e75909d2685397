-- A device that bears the last record of a pool and the one before it is free.
use Rattle.std.proofs.Common.{◌≡◌, ◌≢◌, ◌⊎◌, inl, inr, ℕ, ◌+◌, ◌%◌, ◌<◌, Bool, true, false, cond, nat_eq, nat_lt, List, Some, None, refl, sym, ◌∙◌, ap, subst, arith}
use Rattle.std.proofs.lemmas.Bool.{cases_Bool, cases_lt}
use Rattle.std.proofs.lemmas.Bool.Decides.{nat_tests}
use Rattle.st_limits.specs.declared.TheConstants.{MIN_DEVICE_SECTORS}
use Rattle.st_fields.specs.Slot.{Found}
use Rattle.st_header.specs.Header.{header_of}
use Rattle.st_poolrec.specs.declared.record.PoolRec.{PoolRec}
use Rattle.st_poolrec.specs.Record.{IsPoolRec, record_text}
use Rattle.st_deltalog.specs.Bearing.{IsSettled}
use Rattle.st_deltalog.specs.Log.{serial_in}
use Rattle.st_rack.specs.Story.{Content}
use Rattle.st_rack.specs.Device.{DevState, Leaves, cells}
use Rattle.st_slots.specs.Reading.{newer, read_slot}
use Rattle.st_commit.specs.Standing.{keep}
use Rattle.st_commit.specs.Ready.{BearsRecord}
use Rattle.st_commit.proofs.Steps.{record_left}
use Rattle.st_image.specs.Looks.{has_header, pool_area, slot_on}
use Rattle.st_image.specs.Bears.{newest_on}
use Rattle.st_image.specs.Kept.{NoneOrGone}
use Rattle.st_image.specs.Committed.{HasOwnHeader}
use Rattle.st_image.proofs.Committing.{header_left, not_serial}
use Rattle.st_books.proofs.Texts.{record_serial}
use Rattle.st_pool.specs.Ends.{IsFreed}

same_or_not : (q p : ℕ) → (q ≡ p) ⊎ (nat_eq q p ≡ false)
same_or_not q p = elim (cases_Bool (nat_eq q p)) [
  | inl hit ↦ inl (grind (arith, nat_tests, hit))
  | inr miss ↦ inr miss
]

eq_self : (n : ℕ) → nat_eq n n ≡ true
eq_self n = grind (arith, nat_tests)

miss_apart : (q p : ℕ) → nat_eq q p ≡ false → q ≢ p
miss_apart q p miss e = grind (arith, nat_tests)

some_inj : (x y : ℕ × List ℕ) → Some x ≡ Some y → x ≡ y
some_inj x y e = cc

below : (g : ℕ) → nat_lt g (g + 1) ≡ true
below g = grind (arith, nat_tests)

not_below : (g : ℕ) → nat_lt (g + 1) g ≡ false
not_below g = grind (arith, nat_tests)

-- of two slots one is that of a generation, the other that of the next
places : (g : ℕ) → ((g % 2 ≡ 0) × ((g + 1) % 2 ≡ 1)) ⊎ ((g % 2 ≡ 1) × ((g + 1) % 2 ≡ 0))
places g = elim (cases_lt (g % 2) 1) [
  | inl even ↦ (let zero : g % 2 ≡ 0 = omega arith in inl (zero, omega (arith, zero)))
  | inr odd ↦ (let one : g % 2 ≡ 1 = omega (arith, odd) in inr (one, omega (arith, one)))
]

zero_or_one : (r : ℕ) → r < 2 → (r ≡ 0) ⊎ (r ≡ 1)
zero_or_one r lt = elim (cases_lt r 1) [
  | inl low ↦ inl (omega (arith, low))
  | inr high ↦ inr (omega (arith, lt, high))
]

module _ (p sectors g : ℕ) (old last : PoolRec) (s : DevState) (own : HasOwnHeader p sectors s) (was : BearsRecord pool_area g (record_text old) s) (is : BearsRecord pool_area (g + 1) (record_text last) s)
    (old_is : IsPoolRec old) (last_is : IsPoolRec last) (old_serial : old.serial ≡ p) (last_serial : last.serial ≡ p) (gone : last.gone ≡ true) where
  abbrev Slots : Found → Found → Type 0
  Slots a b = ((a ≡ Some (g, record_text old)) × (b ≡ Some (g + 1, record_text last))) ⊎ ((a ≡ Some (g + 1, record_text last)) × (b ≡ Some (g, record_text old)))

  slots_of : (f : Content) → Leaves s f → Slots (read_slot pool_area 0 f) (read_slot pool_area 1 f)
  slots_of f left =
      let one = record_left pool_area g (record_text old) s f was left in
      let two = record_left pool_area (g + 1) (record_text last) s f is left in
      elim (places g) [
        | inl at ↦ inl (ap (λ (r : ℕ). read_slot pool_area r f) (sym at.0) ∙ one, ap (λ (r : ℕ). read_slot pool_area r f) (sym at.1) ∙ two)
        | inr at ↦ inr (ap (λ (r : ℕ). read_slot pool_area r f) (sym at.1) ∙ two, ap (λ (r : ℕ). read_slot pool_area r f) (sym at.0) ∙ one)
      ]

  old_text : serial_in (record_text old) ≡ p
  old_text = record_serial old old_is ∙ old_serial

  last_text : serial_in (record_text last) ≡ p
  last_text = record_serial last last_is ∙ last_serial

  kept_old : keep p (Some (g, record_text old)) ≡ Some (g, record_text old)
  kept_old = ap (λ (t : Bool). cond t (Some (g, record_text old)) None) (ap (λ (n : ℕ). nat_eq n p) old_text ∙ eq_self p)

  kept_last : keep p (Some (g + 1, record_text last)) ≡ Some (g + 1, record_text last)
  kept_last = ap (λ (t : Bool). cond t (Some (g + 1, record_text last)) None) (ap (λ (n : ℕ). nat_eq n p) last_text ∙ eq_self p)

  -- the newest is the last
  newest_two : (a b : Found) → Slots a b → newer (keep p a) (keep p b) ≡ Some (g + 1, record_text last)
  newest_two a b (inl at) =
      ap (λ (x : Found). newer (keep p x) (keep p b)) at.0 ∙ ap (λ (x : Found). newer (keep p (Some (g, record_text old))) (keep p x)) at.1
      ∙ ap (λ (x : Found). newer x (keep p (Some (g + 1, record_text last)))) kept_old ∙ ap (λ (x : Found). newer (Some (g, record_text old)) x) kept_last
      ∙ ap (λ (t : Bool). cond t (Some (g + 1, record_text last)) (Some (g, record_text old))) (below g)
  newest_two a b (inr at) =
      ap (λ (x : Found). newer (keep p x) (keep p b)) at.0 ∙ ap (λ (x : Found). newer (keep p (Some (g + 1, record_text last))) (keep p x)) at.1
      ∙ ap (λ (x : Found). newer x (keep p (Some (g, record_text old)))) kept_last ∙ ap (λ (x : Found). newer (Some (g + 1, record_text last)) x) kept_old
      ∙ ap (λ (t : Bool). cond t (Some (g, record_text old)) (Some (g + 1, record_text last))) (not_below g)

  none_or_gone : (f : Content) → Leaves s f → (q : ℕ) → NoneOrGone (newest_on q sectors f)
  none_or_gone f left q = by (same_or_not q p)
    where
      header : has_header p sectors f ≡ true
      header = header_left p sectors s f own left

      by : (q ≡ p) ⊎ (nat_eq q p ≡ false) → NoneOrGone (newest_on q sectors f)
      by (inl same) =
          subst (λ (o : Found). NoneOrGone o) (sym (
          ap (λ (n : ℕ). newest_on n sectors f) same
          ∙ ap (λ (t : Bool). newer (cond t (keep p (read_slot pool_area 0 f)) None) (cond t (keep p (read_slot pool_area 1 f)) None)) header
          ∙ newest_two (read_slot pool_area 0 f) (read_slot pool_area 1 f) (slots_of f left)))
          (last, record { is = last_is; spelled = refl }, gone)
      by (inr miss) =
          subst (λ (o : Found). NoneOrGone o) (sym (
          ap (λ (t : Bool). newer (cond t (keep q (read_slot pool_area 0 f)) None) (cond t (keep q (read_slot pool_area 1 f)) None)) (not_serial p q (header_of sectors (cells f 0 8192)) (miss_apart q p miss) header)))
          tt

  slot_serial : (f : Content) → Leaves s f → (r : ℕ) → r < 2 → (x : ℕ × List ℕ) → slot_on sectors r f ≡ Some x → serial_in x.1 ≡ p
  slot_serial f left r lt x e = by (nat_lt sectors MIN_DEVICE_SECTORS) e
    where
      text_of : (o : Found) → (o ≡ Some (g, record_text old)) ⊎ (o ≡ Some (g + 1, record_text last)) → o ≡ Some x → serial_in x.1 ≡ p
      text_of o (inl old_one) is = ap (λ (y : ℕ × List ℕ). serial_in y.1) (some_inj x (g, record_text old) (sym is ∙ old_one)) ∙ old_text
      text_of o (inr last_one) is = ap (λ (y : ℕ × List ℕ). serial_in y.1) (some_inj x (g + 1, record_text last) (sym is ∙ last_one)) ∙ last_text

      either : (a b : Found) → Slots a b → ((a ≡ Some (g, record_text old)) ⊎ (a ≡ Some (g + 1, record_text last))) × ((b ≡ Some (g, record_text old)) ⊎ (b ≡ Some (g + 1, record_text last)))
      either a b (inl at) = (inl at.0, inr at.1)
      either a b (inr at) = (inr at.0, inl at.1)

      at_place : (r ≡ 0) ⊎ (r ≡ 1) → (read_slot pool_area r f ≡ Some (g, record_text old)) ⊎ (read_slot pool_area r f ≡ Some (g + 1, record_text last))
      at_place (inl zero) = subst (λ (k : ℕ). (read_slot pool_area k f ≡ Some (g, record_text old)) ⊎ (read_slot pool_area k f ≡ Some (g + 1, record_text last))) (sym zero) (either (read_slot pool_area 0 f) (read_slot pool_area 1 f) (slots_of f left)).0
      at_place (inr one) = subst (λ (k : ℕ). (read_slot pool_area k f ≡ Some (g, record_text old)) ⊎ (read_slot pool_area k f ≡ Some (g + 1, record_text last))) (sym one) (either (read_slot pool_area 0 f) (read_slot pool_area 1 f) (slots_of f left)).1

      by : (t : Bool) → cond t None (read_slot pool_area r f) ≡ Some x → serial_in x.1 ≡ p
      by true e = absurd (cc)
      by false e = text_of (read_slot pool_area r f) (at_place (zero_or_one r lt)) e

  pub freed : IsSettled s → IsFreed p sectors s
  freed settled = record {
    settled = settled;
    alone = none_or_gone s.holds (λ i sure. refl);
    slots = slot_serial s.holds (λ i sure. refl);
  }
