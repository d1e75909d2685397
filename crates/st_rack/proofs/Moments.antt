-- How a run of calls on a rack goes on.
use Rattle.std.proofs.Common.{◌≡◌, inl, inr, ℕ, ◌≤◌, refl, sym, ◌∙◌, ap, subst, arith}
use Rattle.std.proofs.lemmas.Bool.{cases_lt}
use Rattle.st_rack.specs.Device.{Path, DevState, State, Image, MayLeave}
use Rattle.st_rack.specs.Moments.{LeftSince, Goes, OnDevice, Always, Keeps}

module _ {D : Type 0} (moment : D → ℕ) (state_at : D → ℕ → State) where
  abbrev now : D → State
  now r = state_at r (moment r)

  -- A run of two parts. What is known of the state between them may go into `both`.
  pub goes_on : (P Q R : State → State → Type 0) (old mid new : D) → ((b : State) → P (now old) b → R (now old) b) → ((c : State) → Q (now mid) c → R (now old) c)
      → Goes moment state_at P old mid → Goes moment state_at Q mid new → Goes moment state_at R old new
  goes_on P Q R old mid new first both one two = record {
    later = omega (arith, one.later, two.later);
    past = λ k p le. two.past k p (omega (arith, le, one.later)) ∙ one.past k p le;
    since = λ k lt le. elim (cases_lt (moment mid) k) [
      | inr before ↦ first (state_at new k) (subst (λ (s : State). P (now old) s) (λ i p. sym (two.past k p before) i) (one.since k lt before))
      | inl after ↦ both (state_at new k) (two.since k after le)
    ];
  }

  pub goes_weak : (P Q : State → State → Type 0) (old new : D) → ((a b : State) → P a b → Q a b) → Goes moment state_at P old new → Goes moment state_at Q old new
  goes_weak P Q old new weaker goes = record { later = goes.later; past = goes.past; since = λ k lt le. weaker (state_at old (moment old)) (state_at new k) (goes.since k lt le) }

  -- a run ends in one of its states
  pub at_end : (P : State → State → Type 0) (old new : D) → P (now old) (now old) → Goes moment state_at P old new → P (now old) (now new)
  at_end P old new here goes = elim (cases_lt (moment old) (moment new)) [
    | inl after ↦ goes.since (moment new) after (omega arith)
    | inr before ↦
        let same : moment new ≡ moment old = omega (arith, before, goes.later) in
        let there : (p : Path) → now new p ≡ now old p = λ p. goes.past (moment new) p before ∙ ap (λ (k : ℕ). state_at old k p) same in
        subst (λ (s : State). P (now old) s) (λ i p. sym (there p) i) here
  ]

  -- A crash since the start of a run left something that a state of the run may leave.
  pub left_in : (P : State → State → Type 0) (old new : D) (c : Image) → Goes moment state_at P old new → P (now old) (now old)
      → LeftSince moment state_at new (moment old) c → (s : State) × P (now old) s × MayLeave s c
  left_in P old new c goes here since = elim (cases_lt (moment old) since.at) [
    | inr before ↦
        let same : since.at ≡ moment old = omega (arith, before, since.from) in
        let at_start : (p : Path) → state_at new since.at p ≡ now old p = λ p. goes.past since.at p before ∙ ap (λ (k : ℕ). state_at old k p) same in
        (now old, here, subst (λ (s : State). MayLeave s c) (λ i p. at_start p i) since.left)
    | inl after ↦ (state_at new since.at, goes.since since.at after since.until, since.left)
  ]

  -- the state at each moment of a run
  pub at_moment : (P : State → State → Type 0) (old new : D) → P (now old) (now old) → Goes moment state_at P old new → (k : ℕ) → moment old ≤ k → k ≤ moment new → P (now old) (state_at new k)
  at_moment P old new here goes k from until = elim (cases_lt (moment old) k) [
    | inr before ↦
        let same : k ≡ moment old = omega (arith, before, from) in
        let at_start : (p : Path) → state_at new k p ≡ now old p = λ p. goes.past k p before ∙ ap (λ (j : ℕ). state_at old j p) same in
        subst (λ (s : State). P (now old) s) (λ i p. sym (at_start p) i) here
    | inl after ↦ goes.since k after until
  ]

  -- a run of which each state has what the start's step gives
  pub goes_keeps : (P : State → State → Type 0) (Q : State → Type 0) (old new : D) → P (now old) (now old) → ((s : State) → P (now old) s → Q s) → Goes moment state_at P old new → Keeps moment state_at Q old new
  goes_keeps P Q old new here each goes = record { later = goes.later; past = goes.past; all = λ k from until. each (state_at new k) (at_moment P old new here goes k from until) }

  pub keeps_self : (Q : State → Type 0) (r : D) → Q (now r) → Keeps moment state_at Q r r
  keeps_self Q r here = record {
    later = omega arith;
    past = λ k p le. refl;
    all = λ k from until. (let same : moment r ≡ k = omega (arith, from, until) in subst (λ (j : ℕ). Q (state_at r j)) same here);
  }

  pub keeps_weak : (P Q : State → Type 0) (old new : D) → ((s : State) → P s → Q s) → Keeps moment state_at P old new → Keeps moment state_at Q old new
  keeps_weak P Q old new weaker keeps = record { later = keeps.later; past = keeps.past; all = λ k from until. weaker (state_at new k) (keeps.all k from until) }

  pub keeps_on : (Q : State → Type 0) (old mid new : D) → Keeps moment state_at Q old mid → Keeps moment state_at Q mid new → Keeps moment state_at Q old new
  keeps_on Q old mid new one two = record {
    later = omega (arith, one.later, two.later);
    past = λ k p le. two.past k p (omega (arith, le, one.later)) ∙ one.past k p le;
    all = λ k from until. elim (cases_lt (moment mid) k) [
      | inr before ↦ subst Q (λ i p. sym (two.past k p before) i) (one.all k from before)
      | inl after ↦ two.all k (omega (arith, after)) until
    ];
  }

  pub keeps_always : (Q : State → Type 0) (old new : D) → Keeps moment state_at Q old new → Always moment state_at Q old new
  keeps_always Q old new keeps = keeps.all

  pub always_weak : (P Q : State → Type 0) (old new : D) → ((s : State) → P s → Q s) → Always moment state_at P old new → Always moment state_at Q old new
  always_weak P Q old new weaker always k from until = weaker (state_at new k) (always k from until)

  -- A run whose first part keeps it, and whose second has it from there on.
  pub always_on : (Q : State → Type 0) (old mid new : D) → Keeps moment state_at Q old mid → ((k : ℕ) (p : Path) → k ≤ moment mid → state_at new k p ≡ state_at mid k p) → Always moment state_at Q mid new → Always moment state_at Q old new
  always_on Q old mid new one past two k from until = elim (cases_lt (moment mid) k) [
    | inr before ↦ subst Q (λ i p. sym (past k p before) i) (one.all k from before)
    | inl after ↦ two k (omega (arith, after)) until
  ]

  -- a run that begins where nothing changes, as with a read
  pub keeps_from : (Q : State → Type 0) (old mid new : D) → moment mid ≡ moment old → state_at mid ≡ state_at old → Keeps moment state_at Q mid new → Keeps moment state_at Q old new
  keeps_from Q old mid new clock states keeps = record {
    later = omega (arith, keeps.later, clock);
    past = λ k p le. keeps.past k p (omega (arith, le, clock)) ∙ (λ i. states i k p);
    all = λ k from until. keeps.all k (omega (arith, from, clock)) until;
  }

-- steps on one device make a step on it
pub on_device_both : (dev : Path) (P Q R : DevState → DevState → Type 0) → ((a b c : DevState) → P a b → Q b c → R a c)
    → (a b c : State) → OnDevice dev P a b → OnDevice dev Q b c → OnDevice dev R a c
on_device_both dev P Q R both a b c one two = record {
  here = both (a dev) (b dev) (c dev) one.here two.here;
  others = λ p ne. two.others p ne ∙ one.others p ne;
}
