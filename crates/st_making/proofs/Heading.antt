-- The headers of a pool's devices are written one after the other.
use Rattle.std.proofs.Common.{◌≡◌, ◌⊎◌, inl, inr, ℕ, ◌+◌, ◌<◌, ◌≤◌, List, Some, refl, sym, ◌∙◌, ap, subst, arith}
use Rattle.std.specs.List.{slice_get}
use Rattle.std.proofs.lemmas.Bool.{cases_lt}
use Rattle.st_header.specs.Header.{header_text}
use Rattle.st_rack.specs.Device.{Path, DevState, State}
use Rattle.st_rack.specs.Calls.{Devices}
use Rattle.st_rack.specs.Moments.{Goes, OnDevice}
use Rattle.st_rack.specs.Steps.{Rewriting, Rewritten}
use Rattle.st_rack.proofs.Look.{same_or_other}
use Rattle.st_rack.proofs.Moments.{goes_on, goes_weak}
use Rattle.st_rack.proofs.Written.{rewriting}
use Rattle.st_commit.specs.Ready.{AreDistinct, IsOf}
use Rattle.st_image.specs.Bears.{paths}
use Rattle.st_image.proofs.Committing.{path_at}
use Rattle.st_making.specs.inner.Heading.{Heading, Headed, AllHeading, AllHeaded, first_copy, second_copy}

headed_heading : (text : List ℕ) (a s : DevState) → Headed text a s → Heading text a s
headed_heading text a s headed = inr (inr (headed.0, headed.1, rewriting first_copy text headed.0 s headed.2))

module _ {D : Type 0} (moment : D → ℕ) (state_at : D → ℕ → State) (dev : Path) (text : List ℕ) where
  abbrev now : D → State
  now r = state_at r (moment r)

  -- the second copy
  pub second_written : (old mid : D) → Goes moment state_at (OnDevice dev (Rewriting second_copy text)) old mid → Goes moment state_at (OnDevice dev (Heading text)) old mid
  second_written old mid = goes_weak moment state_at (OnDevice dev (Rewriting second_copy text)) (OnDevice dev (Heading text)) old mid (λ a b one. record { here = inr (inl one.here); others = one.others })

  -- and then the first
  pub first_written : (old mid new : D) → OnDevice dev (Rewritten second_copy text) (now old) (now mid) → Goes moment state_at (OnDevice dev (Rewriting second_copy text)) old mid
      → Goes moment state_at (OnDevice dev (Rewriting first_copy text)) mid new → Goes moment state_at (OnDevice dev (Heading text)) old new
  first_written old mid new done one two =
      goes_on moment state_at (OnDevice dev (Rewriting second_copy text)) (OnDevice dev (Rewriting first_copy text)) (OnDevice dev (Heading text)) old mid new
      (λ b p. record { here = inr (inl p.here); others = p.others })
      (λ s p. record { here = inr (inr (now mid dev, done.here, p.here)); others = λ q ne. p.others q ne ∙ done.others q ne })
      one two

  pub both_written : (old mid new : D) → OnDevice dev (Rewritten second_copy text) (now old) (now mid) → OnDevice dev (Rewritten first_copy text) (now mid) (now new) → OnDevice dev (Headed text) (now old) (now new)
  both_written old mid new one two = record { here = (now mid dev, one.here, two.here); others = λ q ne. two.others q ne ∙ one.others q ne }

-- The headers of the first i devices are written, and nothing else was done.
pub record Begun (p : ℕ) (devs : Devices) (i : ℕ) (a s : State) : Type 0 where
  pub headed : (k : ℕ) (d : Path × ℕ) → k < i → slice_get devs k ≡ Some d → Headed (header_text p d.1) (a d.0) (s d.0)
  pub untouched : (k : ℕ) (d : Path × ℕ) → i ≤ k → slice_get devs k ≡ Some d → s d.0 ≡ a d.0
  pub others : (d : Path) → (IsOf (paths devs) d → ⊥) → s d ≡ a d

pub not_begun : (p : ℕ) (devs : Devices) (a : State) → Begun p devs 0 a a
not_begun p devs a = record { headed = λ k d lt at. absurd (omega (arith, lt)); untouched = λ k d le at. refl; others = λ d not_of. refl }

pub all_begun : (p : ℕ) (devs : Devices) (i : ℕ) (a s : State) → ((k : ℕ) (d : Path × ℕ) → slice_get devs k ≡ Some d → k < i) → Begun p devs i a s → AllHeaded p devs a s
all_begun p devs i a s all begun = record { here = λ k d at. begun.headed k d (all k d at) at; others = begun.others }

some_inj : (x y : Path × ℕ) → Some x ≡ Some y → x ≡ y
some_inj x y e = cc

module _ (p : ℕ) (devs : Devices) (distinct : AreDistinct (paths devs)) (i : ℕ) (d : Path × ℕ) (at : slice_get devs i ≡ Some d) where
  same_place : (k : ℕ) (e : Path × ℕ) → slice_get devs k ≡ Some e → e.0 ≡ d.0 → k ≡ i
  same_place k e at_k same = distinct k i d.0 (path_at devs k e at_k ∙ ap (λ (q : Path). Some q) same) (path_at devs i d at)

  same_pair : (k : ℕ) (e : Path × ℕ) → slice_get devs k ≡ Some e → k ≡ i → d ≡ e
  same_pair k e at_k same = some_inj d e (sym at ∙ ap (slice_get devs) (sym same) ∙ at_k)

  of_it : (q : Path) → q ≡ d.0 → IsOf (paths devs) q
  of_it q same = record { index = i; is = path_at devs i d at ∙ ap (λ (x : Path). Some x) (sym same) }

  pub step_heading : (a m s : State) → Begun p devs i a m → OnDevice d.0 (Heading (header_text p d.1)) m s → AllHeading p devs a s
  step_heading a m s begun step = record {
    here = λ k e at_k. elim (same_or_other e.0 d.0) [
      | inl same ↦
          subst (λ (x : Path × ℕ). Heading (header_text p x.1) (a x.0) (s x.0)) (same_pair k e at_k (same_place k e at_k same))
          (subst (λ (x : DevState). Heading (header_text p d.1) x (s d.0)) (begun.untouched i d (omega arith) at) step.here)
      | inr ne ↦ subst (λ (x : DevState). Heading (header_text p e.1) (a e.0) x) (sym (step.others e.0 ne)) (before k e at_k (cases_lt k i))
    ];
    others = λ q not_of. step.others q (λ same. not_of (of_it q same)) ∙ begun.others q not_of;
  }
    where
      before : (k : ℕ) (e : Path × ℕ) → slice_get devs k ≡ Some e → (k < i) ⊎ (i ≤ k) → Heading (header_text p e.1) (a e.0) (m e.0)
      before k e at_k (inl below) = headed_heading (header_text p e.1) (a e.0) (m e.0) (begun.headed k e below at_k)
      before k e at_k (inr from) = inl (begun.untouched k e from at_k)

  pub step_begun : (a m s : State) → Begun p devs i a m → OnDevice d.0 (Headed (header_text p d.1)) m s → Begun p devs (i + 1) a s
  step_begun a m s begun step = record {
    headed = λ k e lt at_k. elim (cases_lt k i) [
      | inl below ↦
          subst (λ (x : DevState). Headed (header_text p e.1) (a e.0) x) (sym (step.others e.0 (λ same. (let here = same_place k e at_k same in absurd (omega (arith, below, here))))))
          (begun.headed k e below at_k)
      | inr from ↦
          let here : k ≡ i = omega (arith, lt, from) in
          subst (λ (x : Path × ℕ). Headed (header_text p x.1) (a x.0) (s x.0)) (same_pair k e at_k here)
          (subst (λ (x : DevState). Headed (header_text p d.1) x (s d.0)) (begun.untouched i d (omega arith) at) step.here)
    ];
    untouched = λ k e le at_k. step.others e.0 (λ same. (let here = same_place k e at_k same in absurd (omega (arith, le, here)))) ∙ begun.untouched k e (omega (arith, le)) at_k;
    others = λ q not_of. step.others q (λ same. not_of (of_it q same)) ∙ begun.others q not_of;
  }

  pub heading_on : {D : Type 0} (moment : D → ℕ) (state_at : D → ℕ → State) (old mid new : D) → Begun p devs i (state_at old (moment old)) (state_at mid (moment mid)) → Goes moment state_at (AllHeading p devs) old mid
      → Goes moment state_at (OnDevice d.0 (Heading (header_text p d.1))) mid new → Goes moment state_at (AllHeading p devs) old new
  heading_on moment state_at old mid new begun one two =
      goes_on moment state_at (AllHeading p devs) (OnDevice d.0 (Heading (header_text p d.1))) (AllHeading p devs) old mid new (λ b x. x)
      (λ s step. step_heading (state_at old (moment old)) (state_at mid (moment mid)) s begun step) one two

pub heading_still : (p : ℕ) (devs : Devices) {D : Type 0} (moment : D → ℕ) (state_at : D → ℕ → State) (r : D) → Goes moment state_at (AllHeading p devs) r r
heading_still p devs moment state_at r = record { later = omega arith; past = λ k q le. refl; since = λ k lt le. absurd (omega (arith, lt, le)) }

pub heading_self : (p : ℕ) (devs : Devices) (a : State) → AllHeading p devs a a
heading_self p devs a = record { here = λ k d at. inl refl; others = λ d not_of. refl }
