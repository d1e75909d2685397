-- After a write and a sync nothing is pending on a device.
use Rattle.std.proofs.Common.{◌≡◌, ◌≢◌, inl, inr, ℕ, ◌+◌, ◌<◌, List, Some, sym, ◌∙◌, ap, subst, arith}
use Rattle.std.specs.List.{slice_get}
use Rattle.std.proofs.lemmas.Bool.{cases_lt}
use Rattle.st_fields.specs.Slot.{slot_bytes}
use Rattle.st_rack.specs.Device.{Path, DevState, State}
use Rattle.st_rack.specs.Story.{Story, Meant, unsettled}
use Rattle.st_rack.specs.Moments.{OnDevice}
use Rattle.st_rack.proofs.Look.{same_or_other}
use Rattle.st_rack.specs.Steps.{Rewritten}
use Rattle.st_slots.specs.Places.{slot_at}
use Rattle.st_slots.specs.declared.spot.Area.{Area}
use Rattle.st_deltalog.specs.Bearing.{IsSettled}
use Rattle.st_commit.specs.Ready.{AreDistinct}
use Rattle.st_commit.specs.Repair.{Mended}
use Rattle.st_commit.specs.inner.Spreading.{SettledDone}

some_inj : (a b : Path) → Some a ≡ Some b → a ≡ b
some_inj a b e = cc

pub rewritten_settled : (at : ℕ) (bytes : List ℕ) (old new : DevState) → Rewritten at bytes old new → IsSettled new
rewritten_settled at bytes old new r = record {
  meant = λ m is. subst (λ (t : Story). Meant t m) r.told is;
  sure = λ i. ap (λ (t : Story). unsettled t i) r.told;
}

pub same_settled : (a b : DevState) → b ≡ a → IsSettled a → IsSettled b
same_settled a b e settled = subst (λ (s : DevState). IsSettled s) (sym e) settled

-- the first device is all that was reached at the start
pub settled_start : {D : Type 0} (M : D → ℕ) (S : D → ℕ → State) (devs : List Path) (rack : D) → SettledDone M S devs 1 rack rack
settled_start M S devs rack first j d lt there =
    let zero_is : j ≡ 0 = omega (arith, lt) in
    first d (ap (slice_get devs) (sym zero_is) ∙ there)

-- one more is written
pub settled_on : {D : Type 0} (M : D → ℕ) (S : D → ℕ → State) (devs : List Path) (i : ℕ) (dev : Path) (at : ℕ) (bytes : List ℕ) (r0 r1 r2 : D) → AreDistinct devs → slice_get devs i ≡ Some dev
    → OnDevice dev (Rewritten at bytes) (S r1 (M r1)) (S r2 (M r2)) → SettledDone M S devs i r0 r1 → SettledDone M S devs (i + 1) r0 r2
settled_on M S devs i dev at bytes r0 r1 r2 distinct here done before first j d lt there = elim (cases_lt j i) [
  | inl below ↦
      let ne : d ≢ dev = (λ e. (let same : j ≡ i = distinct j i d there (here ∙ ap (λ (q : Path). Some q) (sym e)) in absurd (omega (arith, below, same)))) in
      same_settled (S r1 (M r1) d) (S r2 (M r2) d) (done.others d ne) (before first j d below there)
  | inr from ↦
      let at_i : i ≡ j = omega (arith, lt, from) in
      let e : dev ≡ d = some_inj dev d (sym here ∙ ap (slice_get devs) at_i ∙ there) in
      subst (λ (q : Path). IsSettled (S r2 (M r2) q)) e (rewritten_settled at bytes (S r1 (M r1) dev) (S r2 (M r2) dev) done.here)
]

pub mended_settled : (pool : Area) (dev : Path) (g : ℕ) (rec : List ℕ) (a b : State) (d : Path) → Mended pool dev g rec a b → IsSettled (a d) → IsSettled (b d)
mended_settled pool dev g rec a b d (inl done) was = elim (same_or_other dev d) [
  | inl e ↦ subst (λ (q : Path). IsSettled (b q)) e (rewritten_settled (slot_at pool g) (slot_bytes pool.magic g rec) (a dev) (b dev) done.here)
  | inr ne ↦ same_settled (a d) (b d) (done.others d (λ e. ne (sym e))) was
]
mended_settled pool dev g rec a b d (inr same) was = subst (λ (s : State). IsSettled (s d)) (sym same.0) was
