-- A run without faults keeps a device straight, so that it needs no premise on chance.
use Rattle.std.proofs.Common.{◌≡◌, inl, inr, ℕ, ◌+◌, ◌-◌, ◌<◌, ◌≤◌, Bool, cond, List, length, get_or, Option, sym, ◌∙◌, ap, subst, arith}
use Rattle.std.proofs.lemmas.Bool.{cases_lt}
use Rattle.st_rack.specs.Story.{Content, Story, put_in, latest, FairPast}
use Rattle.st_rack.specs.Device.{DevState, Touched, Written, Synced}
use Rattle.st_rack.specs.Readers.{Straight}
use Rattle.st_rack.proofs.Cells.{get_or-cells}
use Rattle.st_rack.proofs.Chance.{fair_latest}
use Rattle.st_rack.proofs.Readers.{put_in_outside}
use Rattle.st_rack.proofs.Pending.{within_below, within_above, within_inside}

-- an Ok write holds what was meant
pub written_latest : (at : ℕ) (bytes : List ℕ) (a b : DevState) (f : Content) → ((i : ℕ) → a.holds i ≡ f i) → Touched at bytes a b → Written at bytes b → (i : ℕ) → b.holds i ≡ put_in at bytes f i
written_latest at bytes a b f was step written i = elim (cases_lt i at) [
  | inl low ↦ step.below i low ∙ was i ∙ sym (put_in_outside at bytes f i (within_below at (length bytes) i low))
  | inr from ↦ elim (cases_lt i (at + length bytes)) [
    | inl until ↦ in_it from until ∙ sym (ap (λ (b : Bool). cond b (get_or bytes (i - at) 0) (f i)) (within_inside at (length bytes) i from until))
    | inr high ↦ step.above i high ∙ was i ∙ sym (put_in_outside at bytes f i (within_above at (length bytes) i high))
  ]
]
  where
    in_it : at ≤ i → i < at + length bytes → b.holds i ≡ get_or bytes (i - at) 0
    in_it le lt =
        let k = i - at in
        let back : at + k ≡ i = omega arith in
        ap b.holds (sym back) ∙ sym (get_or-cells b.holds at (length bytes) k (omega arith)) ∙ ap (λ (l : List ℕ). get_or l k 0) written

pub straight_write : {X : Type 0} (read : Content → Option X) (at : ℕ) (bytes : List ℕ) (a b : DevState) → Touched at bytes a b → Written at bytes b → Straight read a → Straight read b
straight_write read at bytes a b step written straight = record {
  latest_is = λ i. written_latest at bytes a b (latest a.story) straight.latest_is step written i ∙ sym (ap (λ (y : Story). latest y i) step.told);
  past = subst (λ (y : Story). FairPast read y) (sym step.told) straight.past;
}

pub straight_sync : {X : Type 0} (read : Content → Option X) (a b : DevState) → Synced a b → Straight read a → Straight read b
straight_sync read a b synced straight = record {
  latest_is = λ i. ap (λ (f : Content). f i) synced.same ∙ sym (ap (λ (y : Story). latest y i) synced.told);
  past = subst (λ (y : Story). FairPast read y) (sym synced.told) (fair_latest read a.story a.holds (ap read (λ j i. straight.latest_is i j)), straight.past);
}
