-- What one write of a record leaves on its device, at each moment and at its end.
use Rattle.std.proofs.Common.{◌≡◌, inl, inr, ℕ, ◌+◌, ◌%◌, ◌≤◌, List, length, Some, refl, sym, ◌∙◌, ap, subst, arith}
use Rattle.std.specs.Prelude.{OnOk, Result, Ok, Err}
use Rattle.st_fields.specs.Slot.{slot_bytes}
use Rattle.st_rack.specs.Story.{Content}
use Rattle.st_rack.specs.Device.{Path, DevState, State, Leaves}
use Rattle.st_rack.specs.Moments.{Goes, Keeps, OnDevice}
use Rattle.st_rack.specs.Steps.{Rewriting, Rewritten}
use Rattle.st_rack.proofs.Moments.{at_moment}
use Rattle.st_slots.specs.declared.spot.Area.{Area}
use Rattle.st_slots.specs.Places.{slot_at}
use Rattle.st_slots.specs.Reading.{read_slot}
use Rattle.st_slots.specs.Writing.{LeavesFor, MeantAsHeld, Torn}
use Rattle.st_slots.proofs.Running.{rewriting_grows, rewriting_self}
use Rattle.st_deltalog.specs.Bearing.{IsSettled}
use Rattle.st_commit.specs.Ready.{Outside}
use Rattle.st_commit.proofs.Settled.{rewritten_settled}
use Rattle.st_commit.proofs.Whole.{bytes_fit}
use Rattle.st_image.specs.Looks.{pool_area}
use Rattle.st_finishing.specs.inner.Writing.{LeavesWrite, IsWritten}

pub on_both : {T E : Type 0} {P Q W : Type 0} (r : Result T E) → OnOk r P → OnOk r Q → (P → Q → W) → OnOk r W
on_both (Ok value) one two both = both one two
on_both (Err fault) one two both = tt

bytes_short : (g : ℕ) (body : List ℕ) → 64 + length body ≤ 32768 → length (slot_bytes pool_area.magic g body) ≤ 32768
bytes_short g body fits = bytes_fit pool_area g body refl fits

-- outside the slot all is as it was
same_outside : (g : ℕ) (body : List ℕ) (a s : DevState) → 64 + length body ≤ 32768 → Rewriting (slot_at pool_area g) (slot_bytes pool_area.magic g body) a s → (i : ℕ) → Outside pool_area g i → s.holds i ≡ a.holds i
same_outside g body a s fits step i (inl low) = step.changed.below i low
same_outside g body a s fits step i (inr high) = let short = bytes_short g body fits in step.changed.above i (omega (arith, high, short))

module _ {D : Type 0} (M : D → ℕ) (S : D → ℕ → State) (r0 r1 : D) (dev : Path) (g : ℕ) (body : List ℕ) (fits : 64 + length body ≤ 32768) where
  abbrev a : State
  a = S r0 (M r0)

  leaves_here : Goes M S (OnDevice dev (Rewriting (slot_at pool_area g) (slot_bytes pool_area.magic g body))) r0 r1
      → (MeantAsHeld (read_slot pool_area (g % 2)) (a dev) → Keeps M S (λ s. (f : Content) → LeavesFor (read_slot pool_area (g % 2)) (s dev) f → Torn (read_slot pool_area (g % 2) (a dev).holds) (Some (g, body)) (read_slot pool_area (g % 2) f)) r0 r1)
      → Keeps M S (OnDevice dev (LeavesWrite g body) a) r0 r1
  leaves_here time torn = record { later = time.later; past = time.past; all = each }
    where
      step : (k : ℕ) → M r0 ≤ k → k ≤ M r1 → OnDevice dev (Rewriting (slot_at pool_area g) (slot_bytes pool_area.magic g body)) a (S r1 k)
      step k from until = at_moment M S (OnDevice dev (Rewriting (slot_at pool_area g) (slot_bytes pool_area.magic g body))) r0 r1
          (record { here = rewriting_self (slot_at pool_area g) (slot_bytes pool_area.magic g body) (a dev); others = λ p ne. refl }) time k from until

      kept : (k : ℕ) → M r0 ≤ k → k ≤ M r1 → IsSettled (a dev) → (f : Content) → LeavesFor (read_slot pool_area (g % 2)) (S r1 k dev) f → (i : ℕ) → Outside pool_area g i → f i ≡ (a dev).holds i
      kept k from until settled f leaves i (inl low) = leaves.left i ((step k from until).here.changed.sure_below i low (settled.sure i)) ∙ (step k from until).here.changed.below i low
      kept k from until settled f leaves i (inr high) =
          let short = bytes_short g body fits in
          let far : slot_at pool_area g + length (slot_bytes pool_area.magic g body) ≤ i = omega (arith, high, short) in
          leaves.left i ((step k from until).here.changed.sure_above i far (settled.sure i)) ∙ (step k from until).here.changed.above i far

      each : (k : ℕ) → M r0 ≤ k → k ≤ M r1 → OnDevice dev (LeavesWrite g body) a (S r1 k)
      each k from until = record {
        here = record {
          grows = rewriting_grows (slot_at pool_area g) (slot_bytes pool_area.magic g body) (a dev) (S r1 k dev) (step k from until).here;
          left = λ settled f leaves. record {
            same = kept k from until settled f leaves;
            torn = (torn (λ m meant. ap (read_slot pool_area (g % 2)) (settled.meant m meant))).all k from until f leaves;
          };
        };
        others = (step k from until).others;
      }

  pub leaves_write : (area : Area) → area ≡ pool_area → Goes M S (OnDevice dev (Rewriting (slot_at area g) (slot_bytes area.magic g body))) r0 r1
      → (MeantAsHeld (read_slot area (g % 2)) (a dev) → Keeps M S (λ s. (f : Content) → LeavesFor (read_slot area (g % 2)) (s dev) f → Torn (read_slot area (g % 2) (a dev).holds) (Some (g, body)) (read_slot area (g % 2) f)) r0 r1)
      → Keeps M S (OnDevice dev (LeavesWrite g body) a) r0 r1
  leaves_write area is = subst (λ (x : Area). Goes M S (OnDevice dev (Rewriting (slot_at x g) (slot_bytes x.magic g body))) r0 r1
      → (MeantAsHeld (read_slot x (g % 2)) (a dev) → Keeps M S (λ s. (f : Content) → LeavesFor (read_slot x (g % 2)) (s dev) f → Torn (read_slot x (g % 2) (a dev).holds) (Some (g, body)) (read_slot x (g % 2) f)) r0 r1)
      → Keeps M S (OnDevice dev (LeavesWrite g body) a) r0 r1) (sym is) leaves_here

  written_here : OnDevice dev (Rewritten (slot_at pool_area g) (slot_bytes pool_area.magic g body)) a (S r1 (M r1)) → ((f : Content) → Leaves (S r1 (M r1) dev) f → read_slot pool_area (g % 2) f ≡ Some (g, body))
      → IsWritten g body (a dev) (S r1 (M r1) dev)
  written_here step reads = record {
    settled = rewritten_settled (slot_at pool_area g) (slot_bytes pool_area.magic g body) (a dev) (S r1 (M r1) dev) step.here;
    reads = reads (S r1 (M r1) dev).holds (λ i sure. refl);
    same = same;
  }
    where
      same : (i : ℕ) → Outside pool_area g i → (S r1 (M r1) dev).holds i ≡ (a dev).holds i
      same i (inl low) = step.here.changed.below i low
      same i (inr high) = let short = bytes_short g body fits in step.here.changed.above i (omega (arith, high, short))

  pub is_written : (area : Area) → area ≡ pool_area → OnDevice dev (Rewritten (slot_at area g) (slot_bytes area.magic g body)) a (S r1 (M r1)) → ((f : Content) → Leaves (S r1 (M r1) dev) f → read_slot area (g % 2) f ≡ Some (g, body))
      → IsWritten g body (a dev) (S r1 (M r1) dev)
  is_written area is = subst (λ (x : Area). OnDevice dev (Rewritten (slot_at x g) (slot_bytes x.magic g body)) a (S r1 (M r1)) → ((f : Content) → Leaves (S r1 (M r1) dev) f → read_slot x (g % 2) f ≡ Some (g, body))
      → IsWritten g body (a dev) (S r1 (M r1) dev)) (sym is) written_here
