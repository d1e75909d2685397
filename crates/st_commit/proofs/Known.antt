-- What the slots of the devices may read as while a record is written: it, or what was there.
use Rattle.std.proofs.Common.{◌≡◌, ◌⊎◌, inl, inr, ℕ, ◌*◌, ◌^◌, ◌<◌, ◌≤◌, List, length, Some, None, refl, sym, subst}
use Rattle.st_fields.specs.Slot.{slot_bytes}
use Rattle.st_rack.specs.Story.{Content}
use Rattle.st_rack.specs.Device.{Path, DevState, State, cells}
use Rattle.st_rack.specs.Readers.{AllMeant}
use Rattle.st_rack.specs.Moments.{OnDevice}
use Rattle.st_rack.specs.Steps.{Rewriting, Rewritten}
use Rattle.st_rack.proofs.Look.{same_or_other}
use Rattle.st_rack.proofs.Chance.{found_in}
use Rattle.st_rack.proofs.Written.{rewriting_on}
use Rattle.st_slots.specs.Places.{place_at, slot_at}
use Rattle.st_slots.specs.Reading.{read_slot}
use Rattle.st_slots.specs.declared.spot.Area.{Area}
use Rattle.st_deltalog.proofs.Bearing.{Off}
use Rattle.st_commit.specs.Ready.{IsOf, Known, NoOther}
use Rattle.st_commit.specs.inner.Spreading.{AllKnown}
use Rattle.st_commit.proofs.Roles.{slot_fair}
use Rattle.st_commit.proofs.Steps.{slot_meant, slot_held}
use Rattle.st_commit.proofs.Whole.{off_slot}

some_inj : (a b : ℕ × List ℕ) → Some a ≡ Some b → a ≡ b
some_inj a b e = cc

module _ (pool : Area) (devs : List Path) (G : ℕ) (rec : List ℕ) (start : State) where
  pub known_start : AllKnown pool devs G rec start start
  known_start = record {
    meant = λ d of r lt m meant x is. inr (record { content = m; known = inl meant; reads = is });
    held = λ d of r lt x is. inr (record { content = (start d).holds; known = inr refl; reads = is });
  }

  known_none : (r : ℕ) (d : Path) → Known pool G rec r (start d) None
  known_none r d x is = absurd (cc)

  pub known_left : (s : State) → ((d : Path) → IsOf devs d → (r : ℕ) → r < 2 → AllMeant (read_slot pool r) (Known pool G rec r (start d)) (s d)) → NoOther pool devs G rec start s
  known_left s all c leaves d of r lt =
      found_in (read_slot pool r) (Known pool G rec r (start d)) (s d).story (c d) (known_none r d) (all d of r lt) (slot_fair pool (s d) (c d) (leaves of.index d of.is) r lt)

  module _ (dev : Path) (eight : length pool.magic ≡ 8) (some : 1 ≤ G) (until : G ≤ 2 ^ 48) (small : pool.slot ≤ 2 ^ 32) (fits : length (slot_bytes pool.magic G rec) ≤ 512 * pool.slot) (a s : State)
      (known : AllKnown pool devs G rec start a) where
    abbrev bytes : List ℕ
    bytes = slot_bytes pool.magic G rec

    off : (d : Path) (q r : ℕ) → r < 2 → Off (place_at pool r) (512 * pool.slot) (slot_at pool G) (length bytes) ⊎ ((f : Content) → cells f (slot_at pool G) (length bytes) ≡ bytes → Known pool G rec q (start d) (read_slot pool r f))
    off d q = off_slot pool (Known pool G rec q (start d)) G rec eight some until small fits (λ x is. inl (some_inj x (G, rec) (sym is)))

    pub known_step : OnDevice dev (Rewriting (slot_at pool G) bytes) a s → (d : Path) → IsOf devs d → (r : ℕ) → r < 2 → AllMeant (read_slot pool r) (Known pool G rec r (start d)) (s d)
    known_step step d of r lt = elim (same_or_other d dev) [
      | inl e ↦ slot_meant pool devs dev (slot_at pool G) bytes (Known pool G rec r (start d)) (off d r) r lt (a d) (s d)
          (subst (λ (q : Path). Rewriting (slot_at pool G) bytes (a q) (s q)) (sym e) step.here) (known.held d of r lt) (known.meant d of r lt)
      | inr ne ↦ subst (λ (x : DevState). AllMeant (read_slot pool r) (Known pool G rec r (start d)) x) (sym (step.others d ne)) (known.meant d of r lt)
    ]

    pub known_done : OnDevice dev (Rewritten (slot_at pool G) bytes) a s → AllKnown pool devs G rec start s
    known_done step = record {
      meant = known_step (rewriting_on (slot_at pool G) bytes dev a s step);
      held = λ d of r lt. elim (same_or_other d dev) [
        | inl e ↦ slot_held pool devs dev (slot_at pool G) bytes (Known pool G rec r (start d)) (off d r) r lt (a d) (s d)
            (subst (λ (q : Path). Rewritten (slot_at pool G) bytes (a q) (s q)) (sym e) step.here) (known.held d of r lt)
        | inr ne ↦ subst (λ (x : DevState). Known pool G rec r (start d) (read_slot pool r x.holds)) (sym (step.others d ne)) (known.held d of r lt)
      ];
    }
