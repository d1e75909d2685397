-- What is written off the slots for records changes nothing of what they may read as.
use Rattle.std.proofs.Common.{◌≡◌, inl, inr, ℕ, ◌*◌, ◌<◌, List, length, Some, refl, sym, ◌∙◌, ap, subst}
use Rattle.st_fields.specs.Slot.{Found}
use Rattle.st_rack.specs.Device.{Path, DevState, State}
use Rattle.st_rack.specs.Readers.{AllMeant}
use Rattle.st_rack.specs.Moments.{Goes, Keeps, OnDevice}
use Rattle.st_rack.specs.Steps.{Rewriting}
use Rattle.st_rack.proofs.Look.{same_or_other}
use Rattle.st_rack.proofs.Moments.{goes_keeps, keeps_on, keeps_weak, at_end}
use Rattle.st_rack.proofs.Readers.{held_elsewhere, meant_elsewhere}
use Rattle.st_slots.specs.Places.{place_at}
use Rattle.st_slots.specs.Reading.{read_slot}
use Rattle.st_slots.specs.declared.spot.Area.{Area}
use Rattle.st_slots.proofs.Running.{same}
use Rattle.st_deltalog.proofs.Bearing.{Off}
use Rattle.st_commit.specs.Ready.{NoOther, WasThere}
use Rattle.st_commit.proofs.Known.{known_left}
use Rattle.st_commit.proofs.Steps.{local}

module _ (pool : Area) (devs : List Path) (G : ℕ) (rec : List ℕ) (dev : Path) (at : ℕ) (bytes : List ℕ) (off : (r : ℕ) → r < 2 → Off (place_at pool r) (512 * pool.slot) at (length bytes)) (a : State) where
  -- what was there of a record
  abbrev There : Path → ℕ → Found → Type 0
  There d r o = (x : ℕ × List ℕ) → o ≡ Some x → WasThere pool r (a d) x

  there_held : (d : Path) (r : ℕ) → There d r (read_slot pool r (a d).holds)
  there_held d r x is = record { content = (a d).holds; known = inr refl; reads = is }

  there_meant : (d : Path) (r : ℕ) → AllMeant (read_slot pool r) (There d r) (a d)
  there_meant d r m meant x is = record { content = m; known = inl meant; reads = is }

  module _ (s : State) (step : OnDevice dev (Rewriting at bytes) a s) where
    after_meant : (d : Path) (r : ℕ) → r < 2 → AllMeant (read_slot pool r) (There d r) (s d)
    after_meant d r lt = elim (same_or_other d dev) [
      | inl e ↦ meant_elsewhere (read_slot pool r) (place_at pool r) (512 * pool.slot) at bytes (local pool r) (There d r) (a d) (s d) (off r lt)
          (subst (λ (q : Path). Rewriting at bytes (a q) (s q)) (sym e) step.here) (there_held d r) (there_meant d r)
      | inr ne ↦ subst (λ (x : DevState). AllMeant (read_slot pool r) (There d r) x) (sym (step.others d ne)) (there_meant d r)
    ]

    after_held : (d : Path) (r : ℕ) → r < 2 → read_slot pool r (s d).holds ≡ read_slot pool r (a d).holds
    after_held d r lt = elim (same_or_other d dev) [
      | inl e ↦ held_elsewhere (read_slot pool r) (place_at pool r) (512 * pool.slot) at bytes (local pool r) (a d) (s d) (off r lt) (subst (λ (q : Path). Rewriting at bytes (a q) (s q)) (sym e) step.here).changed
      | inr ne ↦ ap (λ (x : DevState). read_slot pool r x.holds) (step.others d ne)
    ]

    -- what was there afterwards was there before
    was_there : (d : Path) (r : ℕ) → r < 2 → (x : ℕ × List ℕ) → WasThere pool r (s d) x → WasThere pool r (a d) x
    was_there d r lt x there = elim there.known [
      | inl meant ↦ after_meant d r lt there.content meant x there.reads
      | inr held ↦ there_held d r x (sym (after_held d r lt) ∙ ap (read_slot pool r) (sym held) ∙ there.reads)
    ]

    no_other_step : NoOther pool devs G rec a s
    no_other_step = known_left pool devs G rec a s (λ d of r lt m meant x is. inr (after_meant d r lt m meant x is))

  module _ {D : Type 0} (moment : D → ℕ) (state_at : D → ℕ → State) (old mid new : D) (start : state_at old (moment old) ≡ a) where
    pub no_other_run : Goes moment state_at (OnDevice dev (Rewriting at bytes)) old mid → Keeps moment state_at (NoOther pool devs G rec a) old mid
    no_other_run run = goes_keeps moment state_at (OnDevice dev (Rewriting at bytes)) (NoOther pool devs G rec a) old mid (same moment state_at dev at bytes (state_at old (moment old)))
        (λ s step. no_other_step s (subst (λ (t : State). OnDevice dev (Rewriting at bytes) t s) start step)) run

    -- a run that goes on from there
    pub no_other_on : Goes moment state_at (OnDevice dev (Rewriting at bytes)) old mid → Keeps moment state_at (NoOther pool devs G rec (state_at mid (moment mid))) mid new → Keeps moment state_at (NoOther pool devs G rec a) old new
    no_other_on run rest =
        let last = subst (λ (t : State). OnDevice dev (Rewriting at bytes) t (state_at mid (moment mid))) start
        (at_end moment state_at (OnDevice dev (Rewriting at bytes)) old mid (same moment state_at dev at bytes (state_at old (moment old))) run) in
        keeps_on moment state_at (NoOther pool devs G rec a) old mid new (no_other_run run)
        (keeps_weak moment state_at (NoOther pool devs G rec (state_at mid (moment mid))) (NoOther pool devs G rec a) mid new (λ s no_other c leaves d of r lt x is. elim (no_other c leaves d of r lt x is) [
          | inl new_one ↦ inl new_one
          | inr there ↦ inr (was_there (state_at mid (moment mid)) last d r lt x there)
        ]) rest)
