-- Places of a device are cleared one after the other, and devices of a list.
use Rattle.std.proofs.Common.{◌≡◌, ◌⊎◌, inl, inr, ℕ, ◌+◌, ◌<◌, ◌≤◌, List, [], ◌∷◌, ◌++◌, Some, refl, sym, ◌∙◌, ap, subst, arith}
use Rattle.std.specs.List.{slice_get}
use Rattle.std.proofs.lemmas.Bool.{cases_lt}
use Rattle.st_rack.specs.Device.{Path, DevState, State}
use Rattle.st_rack.specs.Moments.{Goes, OnDevice}
use Rattle.st_rack.specs.Steps.{Rewriting, Rewritten}
use Rattle.st_rack.proofs.Look.{same_or_other}
use Rattle.st_rack.proofs.Moments.{goes_on, goes_weak}
use Rattle.st_commit.specs.Ready.{AreDistinct, IsOf}
use Rattle.st_clearing.specs.Clearing.{AllClearing, AllCleared, Clearing, Cleared, places, zeros}

clearing_self : (xs : List ℕ) (a s : DevState) → s ≡ a → Clearing xs a s
clearing_self [] a s e = e
clearing_self (x ∷ xs) a s e = inl e

clearing_more : (xs ys : List ℕ) (a s : DevState) → Clearing xs a s → Clearing (xs ++ ys) a s
clearing_more [] ys a s h = clearing_self ys a s h
clearing_more (x ∷ xs) ys a s (inl e) = inl e
clearing_more (x ∷ xs) ys a s (inr (inl w)) = inr (inl w)
clearing_more (x ∷ xs) ys a s (inr (inr t)) = inr (inr (t.0, t.1, clearing_more xs ys t.0 s t.2))

clearing_behind : (xs ys : List ℕ) (a b s : DevState) → Cleared xs a b → Clearing ys b s → Clearing (xs ++ ys) a s
clearing_behind [] ys a b s e h = subst (λ (x : DevState). Clearing ys x s) e h
clearing_behind (x ∷ xs) ys a b s t h = inr (inr (t.0, t.1, clearing_behind xs ys t.0 b s t.2 h))

cleared_behind : (xs ys : List ℕ) (a b s : DevState) → Cleared xs a b → Cleared ys b s → Cleared (xs ++ ys) a s
cleared_behind [] ys a b s e h = subst (λ (x : DevState). Cleared ys x s) e h
cleared_behind (x ∷ xs) ys a b s t h = (t.0, t.1, cleared_behind xs ys t.0 b s t.2 h)

pub cleared_clearing : (xs : List ℕ) (a s : DevState) → Cleared xs a s → Clearing xs a s
cleared_clearing [] a s e = e
cleared_clearing (x ∷ xs) a s t = inr (inr (t.0, t.1, cleared_clearing xs t.0 s t.2))

module _ {D : Type 0} (moment : D → ℕ) (state_at : D → ℕ → State) (dev : Path) where
  abbrev now : D → State
  now r = state_at r (moment r)

  pub one_clearing : (at : ℕ) (old new : D) → Goes moment state_at (OnDevice dev (Rewriting at zeros)) old new → Goes moment state_at (OnDevice dev (Clearing (at ∷ []))) old new
  one_clearing at old new = goes_weak moment state_at (OnDevice dev (Rewriting at zeros)) (OnDevice dev (Clearing (at ∷ []))) old new (λ a b one. record { here = inr (inl one.here); others = one.others })

  pub one_cleared : (at : ℕ) (old new : D) → OnDevice dev (Rewritten at zeros) (now old) (now new) → OnDevice dev (Cleared (at ∷ [])) (now old) (now new)
  one_cleared at old new one = record { here = (now new dev, one.here, refl); others = one.others }

  module _ (xs ys : List ℕ) where
    pub first_clearing : (old mid : D) → Goes moment state_at (OnDevice dev (Clearing xs)) old mid → Goes moment state_at (OnDevice dev (Clearing (xs ++ ys))) old mid
    first_clearing old mid =
        goes_weak moment state_at (OnDevice dev (Clearing xs)) (OnDevice dev (Clearing (xs ++ ys))) old mid (λ a b one. record { here = clearing_more xs ys (a dev) (b dev) one.here; others = one.others })

    pub then_clearing : (old mid new : D) → OnDevice dev (Cleared xs) (now old) (now mid) → Goes moment state_at (OnDevice dev (Clearing xs)) old mid
        → Goes moment state_at (OnDevice dev (Clearing ys)) mid new → Goes moment state_at (OnDevice dev (Clearing (xs ++ ys))) old new
    then_clearing old mid new done one two =
        goes_on moment state_at (OnDevice dev (Clearing xs)) (OnDevice dev (Clearing ys)) (OnDevice dev (Clearing (xs ++ ys))) old mid new
        (λ b p. record { here = clearing_more xs ys (now old dev) (b dev) p.here; others = p.others })
        (λ s p. record { here = clearing_behind xs ys (now old dev) (now mid dev) (s dev) done.here p.here; others = λ q ne. p.others q ne ∙ done.others q ne })
        one two

    pub both_cleared : (old mid new : D) → OnDevice dev (Cleared xs) (now old) (now mid) → OnDevice dev (Cleared ys) (now mid) (now new) → OnDevice dev (Cleared (xs ++ ys)) (now old) (now new)
    both_cleared old mid new one two =
        record { here = cleared_behind xs ys (now old dev) (now mid dev) (now new dev) one.here two.here; others = λ q ne. two.others q ne ∙ one.others q ne }

-- The first i devices are cleared, and nothing else was done.
pub record Begun (devs : List Path) (i : ℕ) (a s : State) : Type 0 where
  pub cleared : (k : ℕ) (d : Path) → k < i → slice_get devs k ≡ Some d → Cleared places (a d) (s d)
  pub untouched : (k : ℕ) (d : Path) → i ≤ k → slice_get devs k ≡ Some d → s d ≡ a d
  pub others : (d : Path) → (IsOf devs d → ⊥) → s d ≡ a d

pub not_begun : (devs : List Path) (a : State) → Begun devs 0 a a
not_begun devs a = record { cleared = λ k d lt at. absurd (omega (arith, lt)); untouched = λ k d le at. refl; others = λ d not_of. refl }

pub all_begun : (devs : List Path) (i : ℕ) (a s : State) → ((k : ℕ) (d : Path) → slice_get devs k ≡ Some d → k < i) → Begun devs i a s → AllCleared devs a s
all_begun devs i a s all begun = record { here = λ k d at. begun.cleared k d (all k d at) at; others = begun.others }

some_inj : (x y : Path) → Some x ≡ Some y → x ≡ y
some_inj x y e = cc

module _ (devs : List Path) (distinct : AreDistinct devs) (i : ℕ) (d : Path) (at : slice_get devs i ≡ Some d) where
  same_place : (k : ℕ) (e : Path) → slice_get devs k ≡ Some e → e ≡ d → k ≡ i
  same_place k e at_k same = distinct k i d (at_k ∙ ap (λ (q : Path). Some q) same) at

  same_path : (k : ℕ) (e : Path) → slice_get devs k ≡ Some e → k ≡ i → d ≡ e
  same_path k e at_k same = some_inj d e (sym at ∙ ap (slice_get devs) (sym same) ∙ at_k)

  of_it : (q : Path) → q ≡ d → IsOf devs q
  of_it q same = record { index = i; is = at ∙ ap (λ (x : Path). Some x) (sym same) }

  pub step_clearing : (a m s : State) → Begun devs i a m → OnDevice d (Clearing places) m s → AllClearing devs a s
  step_clearing a m s begun step = record {
    here = λ k e at_k. elim (same_or_other e d) [
      | inl same ↦
          subst (λ (x : Path). Clearing places (a x) (s x)) (same_path k e at_k (same_place k e at_k same))
          (subst (λ (x : DevState). Clearing places x (s d)) (begun.untouched i d (omega arith) at) step.here)
      | inr ne ↦ subst (λ (x : DevState). Clearing places (a e) x) (sym (step.others e ne)) (before k e at_k (cases_lt k i))
    ];
    others = λ q not_of. step.others q (λ same. not_of (of_it q same)) ∙ begun.others q not_of;
  }
    where
      before : (k : ℕ) (e : Path) → slice_get devs k ≡ Some e → (k < i) ⊎ (i ≤ k) → Clearing places (a e) (m e)
      before k e at_k (inl below) = cleared_clearing places (a e) (m e) (begun.cleared k e below at_k)
      before k e at_k (inr from) = clearing_self places (a e) (m e) (begun.untouched k e from at_k)

  pub step_begun : (a m s : State) → Begun devs i a m → OnDevice d (Cleared places) m s → Begun devs (i + 1) a s
  step_begun a m s begun step = record {
    cleared = λ k e lt at_k. elim (cases_lt k i) [
      | inl below ↦
          subst (λ (x : DevState). Cleared places (a e) x) (sym (step.others e (λ same. (let here = same_place k e at_k same in absurd (omega (arith, below, here))))))
          (begun.cleared k e below at_k)
      | inr from ↦
          let here : k ≡ i = omega (arith, lt, from) in
          subst (λ (x : Path). Cleared places (a x) (s x)) (same_path k e at_k here)
          (subst (λ (x : DevState). Cleared places x (s d)) (begun.untouched i d (omega arith) at) step.here)
    ];
    untouched = λ k e le at_k. step.others e (λ same. (let here = same_place k e at_k same in absurd (omega (arith, le, here)))) ∙ begun.untouched k e (omega (arith, le)) at_k;
    others = λ q not_of. step.others q (λ same. not_of (of_it q same)) ∙ begun.others q not_of;
  }

  pub clearing_on : {D : Type 0} (moment : D → ℕ) (state_at : D → ℕ → State) (old mid new : D) → Begun devs i (state_at old (moment old)) (state_at mid (moment mid)) → Goes moment state_at (AllClearing devs) old mid
      → Goes moment state_at (OnDevice d (Clearing places)) mid new → Goes moment state_at (AllClearing devs) old new
  clearing_on moment state_at old mid new begun one two =
      goes_on moment state_at (AllClearing devs) (OnDevice d (Clearing places)) (AllClearing devs) old mid new (λ b x. x)
      (λ s step. step_clearing (state_at old (moment old)) (state_at mid (moment mid)) s begun step) one two

pub clearing_still : (devs : List Path) {D : Type 0} (moment : D → ℕ) (state_at : D → ℕ → State) (r : D) → Goes moment state_at (AllClearing devs) r r
clearing_still devs moment state_at r = record { later = omega arith; past = λ k q le. refl; since = λ k lt le. absurd (omega (arith, lt, le)) }
