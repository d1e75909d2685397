-- One write more, on the next device of a list.
use Rattle.std.proofs.Common.{◌≡◌, ◌≢◌, inl, inr, ℕ, ◌+◌, ◌<◌, ◌≤◌, List, Some, refl, sym, ◌∙◌, ap, subst, arith}
use Rattle.std.specs.List.{slice_get}
use Rattle.std.proofs.lemmas.Bool.{cases_lt}
use Rattle.st_rack.specs.Device.{Path, DevState, State}
use Rattle.st_rack.specs.Moments.{Keeps, OnDevice}
use Rattle.st_rack.proofs.Look.{same_or_other}
use Rattle.st_rack.proofs.Moments.{keeps_on, keeps_self, keeps_weak}
use Rattle.st_commit.specs.Ready.{AreDistinct}
use Rattle.st_finishing.specs.inner.Writing.{IsWritten, LeavesWrite, WritesOn}

some_inj : (a b : Path) → Some a ≡ Some b → a ≡ b
some_inj a b e = cc

module _ {D : Type 0} (M : D → ℕ) (S : D → ℕ → State) (g : ℕ) (body : List ℕ) (list : List Path) where
  abbrev now : D → State
  now r = S r (M r)

  pub writes_none : (r0 : D) → Keeps M S (WritesOn g body list (now r0)) r0 r0
  writes_none r0 = keeps_self M S (WritesOn g body list (now r0)) r0 (λ d. inl refl)

  module _ (r0 r1 r2 : D) (i : ℕ) (dev : Path) (at : slice_get list i ≡ Some dev) (before : Keeps M S (WritesOn g body list (now r0)) r0 r1)
      (untouched : (j : ℕ) (d : Path) → i ≤ j → slice_get list j ≡ Some d → now r1 d ≡ now r0 d) (step : Keeps M S (OnDevice dev (LeavesWrite g body) (now r1)) r1 r2) where
    -- at a moment of the write
    one_step : (s : State) → OnDevice dev (LeavesWrite g body) (now r1) s → WritesOn g body list (now r0) s
    one_step s here d = elim (same_or_other d dev) [
      | inl is ↦ inr (
        record { index = i; is = at ∙ ap (λ (p : Path). Some p) (sym is) },
        subst (λ (x : DevState). LeavesWrite g body x (s d)) (untouched i d (omega arith) (at ∙ ap (λ (p : Path). Some p) (sym is))) (subst (λ (p : Path). LeavesWrite g body (now r1 p) (s p)) (sym is) here.here),
      )
      | inr ne ↦ elim (before.all (M r1) before.later (omega arith) d) [
        | inl same ↦ inl (here.others d ne ∙ same)
        | inr one ↦ inr (one.0, subst (λ (x : DevState). LeavesWrite g body (now r0 d) x) (sym (here.others d ne)) one.1)
      ]
    ]

    pub writes_more : Keeps M S (WritesOn g body list (now r0)) r0 r2
    writes_more = keeps_on M S (WritesOn g body list (now r0)) r0 r1 r2 before (keeps_weak M S (OnDevice dev (LeavesWrite g body) (now r1)) (WritesOn g body list (now r0)) r1 r2 one_step step)

    at_the_end : OnDevice dev (LeavesWrite g body) (now r1) (now r2)
    at_the_end = step.all (M r2) step.later (omega arith)

    module _ (distinct : AreDistinct list) where
      pub still_untouched : (j : ℕ) (d : Path) → i + 1 ≤ j → slice_get list j ≡ Some d → now r2 d ≡ now r0 d
      still_untouched j d le there =
          let ne : d ≢ dev = (λ e. (let same : j ≡ i = distinct j i d there (at ∙ ap (λ (p : Path). Some p) (sym e)) in absurd (omega (arith, le, same)))) in
          at_the_end.others d ne ∙ untouched j d (omega (arith, le)) there

      pub written_more : IsWritten g body (now r1 dev) (now r2 dev) → ((j : ℕ) (d : Path) → j < i → slice_get list j ≡ Some d → IsWritten g body (now r0 d) (now r1 d)) → (j : ℕ) (d : Path) → j < i + 1 → slice_get list j ≡ Some d
          → IsWritten g body (now r0 d) (now r2 d)
      written_more one done j d lt there = elim (cases_lt j i) [
        | inl below ↦
            let ne : d ≢ dev = (λ e. (let same : j ≡ i = distinct j i d there (at ∙ ap (λ (p : Path). Some p) (sym e)) in absurd (omega (arith, below, same)))) in
            subst (λ (x : DevState). IsWritten g body (now r0 d) x) (sym (at_the_end.others d ne)) (done j d below there)
        | inr from ↦
            let here : i ≡ j = omega (arith, lt, from) in
            let e : dev ≡ d = some_inj dev d (sym at ∙ ap (slice_get list) here ∙ there) in
            subst (λ (p : Path). IsWritten g body (now r0 p) (now r2 p)) e (subst (λ (x : DevState). IsWritten g body x (now r2 dev)) (untouched i dev (omega arith) at) one)
      ]
