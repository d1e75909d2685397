-- What a device holds after bytes were written and settled.
use Rattle.std.proofs.Common.{◌≡◌, inl, inr, ℕ, ◌+◌, ◌-◌, ◌<◌, ◌≤◌, Bool, cond, List, length, get_or, sym, ◌∙◌, ap, subst, arith}
use Rattle.std.proofs.lemmas.Bool.{cases_lt}
use Rattle.st_rack.specs.Story.{Story, put_in, unsettled}
use Rattle.st_rack.specs.Device.{Path, DevState, State, IsSure, held}
use Rattle.st_rack.specs.Moments.{OnDevice}
use Rattle.st_rack.specs.Steps.{Rewriting, Rewritten, put_on}
use Rattle.st_rack.proofs.Cells.{get_or-cells}
use Rattle.st_rack.proofs.Look.{on_path, off_path, same_or_other}
use Rattle.st_rack.proofs.Pending.{within_below, within_above, within_inside}
use Rattle.st_rack.proofs.Readers.{put_in_outside}

module _ (at : ℕ) (bytes : List ℕ) where
  pub rewriting : (a b : DevState) → Rewritten at bytes a b → Rewriting at bytes a b
  rewriting a b step = record { changed = step.changed; told = inr (inr (step.told, step.given)) }

  pub rewritten_sure : (a b : DevState) → Rewritten at bytes a b → IsSure b
  rewritten_sure a b step i = ap (λ (y : Story). unsettled y i) step.told

  pub rewritten_holds : (a b : DevState) → Rewritten at bytes a b → (i : ℕ) → b.holds i ≡ put_in at bytes a.holds i
  rewritten_holds a b step i = elim (cases_lt i at) [
    | inl low ↦ step.changed.below i low ∙ sym (put_in_outside at bytes a.holds i (within_below at (length bytes) i low))
    | inr from ↦ elim (cases_lt i (at + length bytes)) [
      | inl until ↦ in_it from until ∙ sym (ap (λ (b : Bool). cond b (get_or bytes (i - at) 0) (a.holds i)) (within_inside at (length bytes) i from until))
      | inr high ↦ step.changed.above i high ∙ sym (put_in_outside at bytes a.holds i (within_above at (length bytes) i high))
    ]
  ]
    where
      in_it : at ≤ i → i < at + length bytes → b.holds i ≡ get_or bytes (i - at) 0
      in_it le lt =
          let k = i - at in
          let back : at + k ≡ i = omega arith in
          ap b.holds (sym back) ∙ sym (get_or-cells b.holds at (length bytes) k (omega arith)) ∙ ap (λ (l : List ℕ). get_or l k 0) step.given

  -- so it is of one device of a rack
  pub rewriting_on : (dev : Path) (a b : State) → OnDevice dev (Rewritten at bytes) a b → OnDevice dev (Rewriting at bytes) a b
  rewriting_on dev a b step = record { here = rewriting (a dev) (b dev) step.here; others = step.others }

  pub rewritten_held : (dev : Path) (a b : State) → OnDevice dev (Rewritten at bytes) a b → held b ≡ put_on dev at bytes (held a)
  rewritten_held dev a b step = λ j p i. each p i j
    where
      each : (p : Path) (i : ℕ) → (b p).holds i ≡ put_on dev at bytes (held a) p i
      each p i = elim (same_or_other p dev) [
        | inl e ↦
            subst (λ (q : Path). (b q).holds i ≡ put_in at bytes (a q).holds i) (sym e) (rewritten_holds (a dev) (b dev) step.here i)
            ∙ sym (ap (λ (t : Bool). cond t (put_in at bytes (a p).holds) (a p).holds i) (on_path p dev e))
        | inr ne ↦
            ap (λ (d : DevState). d.holds i) (step.others p ne)
            ∙ sym (ap (λ (t : Bool). cond t (put_in at bytes (a p).holds) (a p).holds i) (off_path p dev ne))
      ]
