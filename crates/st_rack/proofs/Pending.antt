-- Which bytes are pending after a write, a sync and a power cut.
use Rattle.std.proofs.Common.{◌≡◌, inl, inr, ℕ, ◌+◌, ◌<◌, ◌≤◌, Bool, true, false, ◌||◌, List, length, ◌∙◌, ap, arith}
use Rattle.std.proofs.lemmas.Bool.Decides.{nat_tests}
use Rattle.st_rack.specs.Story.{Story, within, unsettled}
use Rattle.st_rack.specs.Device.{DevState, pending, IsSure, Touched, Settling, Synced, Cut}

pub within_below : (at n i : ℕ) → i < at → within at n i ≡ false
within_below at n i lt = grind (arith, nat_tests)

pub within_above : (at n i : ℕ) → at + n ≤ i → within at n i ≡ false
within_above at n i le = grind (arith, nat_tests)

pub within_inside : (at n i : ℕ) → at ≤ i → i < at + n → within at n i ≡ true
within_inside at n i le lt = grind (arith, nat_tests)

-- the bytes of a write are pending, and the others as they were
pub touched_pending : (at : ℕ) (bytes : List ℕ) (a b : DevState) (i : ℕ) → Touched at bytes a b → pending b i ≡ (within at (length bytes) i || pending a i)
touched_pending at bytes a b i t = ap (λ (y : Story). unsettled y i) t.told

pub touched_inside : (at : ℕ) (bytes : List ℕ) (a b : DevState) (i : ℕ) → Touched at bytes a b → at ≤ i → i < at + length bytes → pending b i ≡ true
touched_inside at bytes a b i t le lt = touched_pending at bytes a b i t ∙ ap (λ (x : Bool). x || pending a i) (within_inside at (length bytes) i le lt)

pub touched_outside : (at : ℕ) (bytes : List ℕ) (a b : DevState) (i : ℕ) → Touched at bytes a b → within at (length bytes) i ≡ false → pending b i ≡ pending a i
touched_outside at bytes a b i t out = touched_pending at bytes a b i t ∙ ap (λ (x : Bool). x || pending a i) out

-- while a device is synced, what was sure stays so
pub settling_sure : (a b : DevState) (i : ℕ) → Settling a b → pending a i ≡ false → pending b i ≡ false
settling_sure a b i t sure = elim t.told [
  | inl same ↦ ap (λ (y : Story). unsettled y i) same ∙ sure
  | inr settled ↦ ap (λ (y : Story). unsettled y i) settled
]

pub synced_sure : (a b : DevState) → Synced a b → IsSure b
synced_sure a b t = λ i. ap (λ (y : Story). unsettled y i) t.told

pub cut_sure : (a b : DevState) → Cut a b → IsSure b
cut_sure a b t = λ i. ap (λ (y : Story). unsettled y i) t.told
