-- A commit touches nothing but the pool's slots.
use Rattle.std.proofs.Common.{◌≡◌, inl, inr, ℕ, ◌+◌, ◌*◌, ◌%◌, ◌≤◌, List, length, Some, refl, sym, ◌∙◌, subst, arith}
use Rattle.std.specs.List.{slice_get}
use Rattle.st_rack.specs.Device.{Path, DevState, State}
use Rattle.st_rack.specs.Steps.{Rewriting}
use Rattle.st_rack.specs.Moments.{Goes, OnDevice}
use Rattle.st_rack.proofs.Look.{same_or_other}
use Rattle.st_rack.proofs.Moments.{goes_on, goes_weak, at_end}
use Rattle.st_rack.proofs.Growth.{grows_self, grows_on}
use Rattle.st_slots.specs.declared.spot.Area.{Area}
use Rattle.st_slots.proofs.Running.{rewriting_grows}
use Rattle.st_deltalog.specs.declared.area.FlexArea.{FlexArea}
use Rattle.st_commit.specs.Ready.{Untouched, Outside, OutsideOf, Spares, Moves}

untouched_self : (outside : ℕ → Type 0) (a : DevState) → Untouched outside a a
untouched_self outside a = record { grows = grows_self a.story; same = λ i out. refl; sure = λ i out sure. sure }

untouched_both : (outside : ℕ → Type 0) (a b c : DevState) → Untouched outside a b → Untouched outside b c → Untouched outside a c
untouched_both outside a b c one two = record {
  grows = grows_on a.story b.story c.story one.grows two.grows;
  same = λ i out. two.same i out ∙ one.same i out;
  sure = λ i out sure. two.sure i out (one.sure i out sure);
}

module _ (pool : Area) (flex : FlexArea) (g : ℕ) (devs : List Path) where
  pub moves_self : (a : State) → Moves pool flex g devs a a
  moves_self a d = (untouched_self (λ i. Outside pool g i × (slice_get devs 0 ≡ Some d → OutsideOf flex.area i)) (a d), λ not_of. refl)

  -- the records
  moves_spares : (a s : State) → Spares pool g devs a s → Moves pool flex g devs a s
  moves_spares a s spares d =
      let here = (spares d).0 in
      (record { grows = here.grows; same = λ i out. here.same i out.0; sure = λ i out. here.sure i out.0 }, (spares d).1)

  -- the flex part
  moves_step : (dev : Path) (at : ℕ) (bytes : List ℕ) → slice_get devs 0 ≡ Some dev → 512 * flex.area.at ≤ at → at + length bytes ≤ 512 * (flex.area.at + 2 * flex.area.slot)
      → (a s : State) → OnDevice dev (Rewriting at bytes) a s → Moves pool flex g devs a s
  moves_step dev at bytes head low high a s step d = elim (same_or_other d dev) [
    | inl e ↦
        let here = subst (λ (q : Path). Rewriting at bytes (a q) (s q)) (sym e) step.here in
        let first : slice_get devs 0 ≡ Some d = subst (λ (q : Path). slice_get devs 0 ≡ Some q) (sym e) head in (
          record {
            grows = rewriting_grows at bytes (a d) (s d) here;
            same = λ i out. elim (out.1 first) [ inl lt ↦ here.changed.below i (omega (arith, lt, low)) | inr le ↦ here.changed.above i (omega (arith, le, high)) ];
            sure = λ i out. elim (out.1 first) [ inl lt ↦ here.changed.sure_below i (omega (arith, lt, low)) | inr le ↦ here.changed.sure_above i (omega (arith, le, high)) ];
          },
          λ not_of. absurd (not_of (record { index = 0; is = first })),
        )
    | inr ne ↦ (
      subst (λ (x : DevState). Untouched (λ i. Outside pool g i × (slice_get devs 0 ≡ Some d → OutsideOf flex.area i)) (a d) x) (sym (step.others d ne))
          (untouched_self (λ i. Outside pool g i × (slice_get devs 0 ≡ Some d → OutsideOf flex.area i)) (a d)),
      λ not_of. step.others d ne,
    )
  ]

  module _ {D : Type 0} (moment : D → ℕ) (state_at : D → ℕ → State) where
    pub moves_run : (dev : Path) (at : ℕ) (bytes : List ℕ) → slice_get devs 0 ≡ Some dev → 512 * flex.area.at ≤ at → at + length bytes ≤ 512 * (flex.area.at + 2 * flex.area.slot)
        → (old new : D) → Goes moment state_at (OnDevice dev (Rewriting at bytes)) old new → Goes moment state_at (Moves pool flex g devs) old new
    moves_run dev at bytes head low high old new = goes_weak moment state_at (OnDevice dev (Rewriting at bytes)) (Moves pool flex g devs) old new (moves_step dev at bytes head low high)

    pub moves_on : (old mid new : D) → Goes moment state_at (Moves pool flex g devs) old mid → Goes moment state_at (Spares pool g devs) mid new → Goes moment state_at (Moves pool flex g devs) old new
    moves_on old mid new one two =
        let start = state_at old (moment old) in
        let between = state_at mid (moment mid) in
        let first = at_end moment state_at (Moves pool flex g devs) old mid (moves_self start) one in
        goes_on moment state_at (Moves pool flex g devs) (Spares pool g devs) (Moves pool flex g devs) old mid new (λ b p. p) (λ s spares d.
        (let rest = moves_spares between s spares d in
        (untouched_both (λ i. Outside pool g i × (slice_get devs 0 ≡ Some d → OutsideOf flex.area i)) (start d) (between d) (s d) (first d).0 rest.0, λ not_of. rest.1 not_of ∙ (first d).1 not_of))) one two
