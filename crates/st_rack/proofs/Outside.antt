-- What a crash leaves outside the bytes that a run changes.
use Rattle.std.proofs.Common.{◌≡◌, ◌≢◌, inl, inr, ℕ, ◌+◌, ◌<◌, ◌≤◌, Bool, true, false, List, length, ◌&&◌, cond, nat_le, nat_lt, refl, sym, ◌∙◌, ap, arith}
use Rattle.std.specs.Str.{bytes_eq}
use Rattle.std.proofs.lemmas.Slice.Eq.{bytes_eq-Decides}
use Rattle.std.proofs.lemmas.Bool.{cases_Bool, cases_lt}
use Rattle.std.proofs.lemmas.Bool.Decides.{nat_tests}
use Rattle.st_rack.specs.Device.{Path, DevState, State, Image, MayLeave, pending, Touched, Settling}
use Rattle.st_rack.specs.Steps.{Changed, SameOutside}
use Rattle.st_rack.proofs.Pending.{touched_outside, settling_sure, within_below, within_above}
use Rattle.st_rack.specs.Moments.{OnDevice}

pub changed_self : (at n : ℕ) (a : DevState) → Changed at n a a
changed_self at n a = record { below = λ i lt. refl; above = λ i le. refl; sure_below = λ i lt s. s; sure_above = λ i le s. s }

pub touched_changes : (at : ℕ) (bytes : List ℕ) (a b : DevState) → Touched at bytes a b → Changed at (length bytes) a b
touched_changes at bytes a b t = record {
  below = t.below;
  above = t.above;
  sure_below = λ i lt s. touched_outside at bytes a b i t (within_below at (length bytes) i lt) ∙ s;
  sure_above = λ i le s. touched_outside at bytes a b i t (within_above at (length bytes) i le) ∙ s;
}

pub settling_changes : (at n : ℕ) (a b : DevState) → Settling a b → Changed at n a b
settling_changes at n a b t = record {
  below = λ i lt. ap (λ (f : ℕ → ℕ). f i) t.same;
  above = λ i le. ap (λ (f : ℕ → ℕ). f i) t.same;
  sure_below = λ i lt s. settling_sure a b i t s;
  sure_above = λ i le s. settling_sure a b i t s;
}

pub changed_both : (at n : ℕ) (a b c : DevState) → Changed at n a b → Changed at n b c → Changed at n a c
changed_both at n a b c one two = record {
  below = λ i lt. two.below i lt ∙ one.below i lt;
  above = λ i le. two.above i le ∙ one.above i le;
  sure_below = λ i lt s. two.sure_below i lt (one.sure_below i lt s);
  sure_above = λ i le s. two.sure_above i le (one.sure_above i le s);
}

-- less may have changed
pub changed_within : (at n at' n' : ℕ) (a b : DevState) → at' ≤ at → at + n ≤ at' + n' → Changed at n a b → Changed at' n' a b
changed_within at n at' n' a b low high one = record {
  below = λ i lt. one.below i (omega arith);
  above = λ i le. one.above i (omega arith);
  sure_below = λ i lt s. one.sure_below i (omega arith) s;
  sure_above = λ i le s. one.sure_above i (omega arith) s;
}

module _ (dev : Path) (at n : ℕ) (start s : State) (c : Image) where
  within : ℕ → Bool
  within i = nat_le at i && nat_lt i (at + n)

  -- the image that a crash at the start could leave
  start_image : Image
  start_image p i = cond (bytes_eq p dev && (nat_le at i && nat_lt i (at + n))) ((start p).holds i) (c p i)

  pub crash_outside : OnDevice dev (Changed at n) start s → MayLeave s c → (d : Image) × MayLeave start d × SameOutside dev at n c d
  unfolding start_image
  crash_outside step left = (
    start_image,
    λ p i sure. elim (cases_Bool (bytes_eq p dev)) [
      | inl here ↦ at_dev p i ((bytes_eq-Decides p dev).0 here) sure
      | inr there ↦
          let ne : p ≢ dev = λ e. cc ((bytes_eq-Decides p dev).1 e) in
          ap (λ (b : Bool). cond (b && (nat_le at i && nat_lt i (at + n))) ((start p).holds i) (c p i)) there
          ∙ left p i (ap (λ (d : DevState). pending d i) (step.others p ne) ∙ sure) ∙ ap (λ (d : DevState). d.holds i) (step.others p ne)
    ],
    record {
      below = λ i lt. sym (out dev i (outside_low i lt));
      above = λ i le. sym (out dev i (outside_high i le));
      others = λ p i ne. sym (ap (λ (b : Bool). cond (b && (nat_le at i && nat_lt i (at + n))) ((start p).holds i) (c p i)) (not_dev p ne));
    },
  )
    where
      outside_low : (i : ℕ) → i < at → (nat_le at i && nat_lt i (at + n)) ≡ false
      outside_low i lt = grind (arith, nat_tests)

      outside_high : (i : ℕ) → at + n ≤ i → (nat_le at i && nat_lt i (at + n)) ≡ false
      outside_high i le = grind (arith, nat_tests)

      inside : (i : ℕ) → at ≤ i → i < at + n → (nat_le at i && nat_lt i (at + n)) ≡ true
      inside i le lt = grind (arith, nat_tests)

      not_dev : (p : Path) → p ≢ dev → bytes_eq p dev ≡ false
      not_dev p ne = elim (cases_Bool (bytes_eq p dev)) [ inl here ↦ absurd (ne ((bytes_eq-Decides p dev).0 here)) | inr there ↦ there ]

      and_false : (b : Bool) → (b && false) ≡ false
      and_false true = refl
      and_false false = refl

      out : (p : Path) (i : ℕ) → (nat_le at i && nat_lt i (at + n)) ≡ false → cond (bytes_eq p dev && (nat_le at i && nat_lt i (at + n))) ((start p).holds i) (c p i) ≡ c p i
      out p i no_part =
          ap (λ (b : Bool). cond (bytes_eq p dev && b) ((start p).holds i) (c p i)) no_part
          ∙ ap (λ (b : Bool). cond b ((start p).holds i) (c p i)) (and_false (bytes_eq p dev))

      kept : (p : Path) (i : ℕ) → p ≡ dev → pending (s dev) i ≡ false → (s dev).holds i ≡ (start dev).holds i → c p i ≡ (start p).holds i
      kept p i same sure holds = ap (λ (q : Path). c q i) same ∙ left dev i sure ∙ holds ∙ sym (ap (λ (q : Path). (start q).holds i) same)

      at_dev : (p : Path) (i : ℕ) → p ≡ dev → pending (start p) i ≡ false → cond (bytes_eq p dev && (nat_le at i && nat_lt i (at + n))) ((start p).holds i) (c p i) ≡ (start p).holds i
      at_dev p i same sure =
          let sure_dev : pending (start dev) i ≡ false = ap (λ (q : Path). pending (start q) i) (sym same) ∙ sure in
          elim (cases_lt i at) [
            | inl low ↦ out p i (outside_low i low) ∙ kept p i same (step.here.sure_below i low sure_dev) (step.here.below i low)
            | inr from ↦ elim (cases_lt i (at + n)) [
              | inl until ↦ ap (λ (b : Bool). cond b ((start p).holds i) (c p i)) ((λ k. (bytes_eq-Decides p dev).1 same k && inside i from until k))
              | inr high ↦ out p i (outside_high i high) ∙ kept p i same (step.here.sure_above i high sure_dev) (step.here.above i high)
            ]
          ]
