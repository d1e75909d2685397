-- What is fairly left of a rack is fairly left of its parts, and the other way.
use Rattle.std.proofs.Common.{◌≡◌, inl, inr, ℕ, IsNone, true≢false, Bool, true, false, cond, List, Option, Some, None, sym, ◌∙◌, ap, subst, arith}
use Rattle.std.proofs.lemmas.Bool.{cases_Bool, cases_lt}
use Rattle.st_rack.proofs.Look.{has_or_not, has_is_some}
use Rattle.st_rack.specs.Story.{Content}
use Rattle.st_rack.specs.Device.{Path, DevState, State, Image}
use Rattle.st_rack.specs.Calls.{Devices, Has, sectors_of, names}
use Rattle.st_rack.specs.Parts.{Splits, AreApart, Joins}
use Rattle.st_rack.specs.Left.{LeavesFairly, FairlyLeft}

no_some : (n : ℕ) → None ≡ Some n → ⊥
no_some n is = cc

-- one device, of which the state is the same
carry : {I X : Type 0} (read : I → Path → Content → Option X) (c : Image) (p : Path) (s t : DevState) → s ≡ t → LeavesFairly (λ r. read r p) s (c p) → LeavesFairly (λ r. read r p) t (c p)
carry read c p s t same = subst (λ (d : DevState). LeavesFairly (λ r. read r p) d (c p)) same

module _ {D I X : Type 0} (devs : D → Devices) (moment : D → ℕ) (state_at : D → ℕ → State) (read : I → Path → Content → Option X) where
  abbrev now : D → State
  now r = state_at r (moment r)

  module _ (list : List Path) (old rest part : D) (s : Splits devs moment state_at list old rest part) where
    go_named : (p : Path) → names list p ≡ true → sectors_of (devs part) p ≡ sectors_of (devs old) p
    go_named p there = s.go p ∙ ap (λ (b : Bool). cond b (sectors_of (devs old) p) None) there

    stay_others : (p : Path) → names list p ≡ false → sectors_of (devs rest) p ≡ sectors_of (devs old) p
    stay_others p miss = s.stay p ∙ ap (λ (b : Bool). cond b None (sectors_of (devs old) p)) miss

    in_part : (p : Path) (n : ℕ) → Has (devs part) p n → names list p ≡ true
    in_part p n has = elim (cases_Bool (names list p)) [
      | inl there ↦ there
      | inr miss ↦ absurd (no_some n (sym (ap (λ (b : Bool). cond b (sectors_of (devs old) p) None) miss) ∙ sym (s.go p) ∙ has))
    ]

    in_rest : (p : Path) (n : ℕ) → Has (devs rest) p n → names list p ≡ false
    in_rest p n has = elim (cases_Bool (names list p)) [
      | inl there ↦ absurd (no_some n (sym (ap (λ (b : Bool). cond b None (sectors_of (devs old) p)) there) ∙ sym (s.stay p) ∙ has))
      | inr miss ↦ miss
    ]

    same_part : (p : Path) → names list p ≡ true → now part p ≡ now old p
    same_part p there = ap (λ (k : ℕ). state_at part k p) s.clock_gone ∙ s.states_gone (moment old) p there (omega arith)

    same_rest : (p : Path) → names list p ≡ false → now rest p ≡ now old p
    same_rest p miss = ap (λ (k : ℕ). state_at rest k p) s.clock ∙ s.states (moment old) p miss (omega arith)

    pub whole_to_part : (c : Image) → FairlyLeft devs moment state_at read old c → FairlyLeft devs moment state_at read part c
    whole_to_part c whole p n has =
        let there = in_part p n has in
        carry read c p (now old p) (now part p) (sym (same_part p there)) (whole p n (sym (go_named p there) ∙ has))

    pub whole_to_rest : (c : Image) → FairlyLeft devs moment state_at read old c → FairlyLeft devs moment state_at read rest c
    whole_to_rest c whole p n has =
        let miss = in_rest p n has in
        carry read c p (now old p) (now rest p) (sym (same_rest p miss)) (whole p n (sym (stay_others p miss) ∙ has))

    pub parts_to_whole : (c : Image) → FairlyLeft devs moment state_at read rest c → FairlyLeft devs moment state_at read part c → FairlyLeft devs moment state_at read old c
    parts_to_whole c one two p n has = elim (cases_Bool (names list p)) [
      | inl there ↦ carry read c p (now part p) (now old p) (same_part p there) (two p n (go_named p there ∙ has))
      | inr miss ↦ carry read c p (now rest p) (now old p) (same_rest p miss) (one p n (stay_others p miss ∙ has))
    ]

  module _ (old other new : D) where
    own_only : AreApart devs old other → (p : Path) (n : ℕ) → Has (devs old) p n → IsNone (sectors_of (devs other) p)
    own_only apart p n has = elim (has_or_not (devs other) p) [
      | inl there ↦ absurd (true≢false (sym (has_is_some (devs old) p n has) ∙ apart p there.0 there.1))
      | inr none ↦ none
    ]

    same_own : Joins devs moment state_at old other new → (p : Path) → IsNone (sectors_of (devs other) p) → now new p ≡ now old p
    same_own j p none = elim (cases_lt (moment old) (moment new)) [
      | inl lt ↦ j.since (moment new) p none lt (omega arith)
      | inr ge ↦
          let same : moment new ≡ moment old = omega (arith, j.later) in
          j.states (moment new) p none ge ∙ ap (λ (k : ℕ). state_at old k p) same
    ]

    same_other : Joins devs moment state_at old other new → (p : Path) (n : ℕ) → Has (devs other) p n → now new p ≡ now other p
    same_other j p n has = j.states_others (moment new) p n has (omega arith)

    pub joined_to_own : AreApart devs old other → Joins devs moment state_at old other new → (c : Image) → FairlyLeft devs moment state_at read new c → FairlyLeft devs moment state_at read old c
    joined_to_own apart j c whole p n has =
        let none = own_only apart p n has in
        carry read c p (now new p) (now old p) (same_own j p none) (whole p n (j.own p none ∙ has))

    pub joined_to_other : Joins devs moment state_at old other new → (c : Image) → FairlyLeft devs moment state_at read new c → FairlyLeft devs moment state_at read other c
    joined_to_other j c whole p n has = carry read c p (now new p) (now other p) (same_other j p n has) (whole p n (j.others p n has))

    pub both_to_joined : Joins devs moment state_at old other new → (c : Image) → FairlyLeft devs moment state_at read old c → FairlyLeft devs moment state_at read other c → FairlyLeft devs moment state_at read new c
    both_to_joined j c one two p n has = elim (has_or_not (devs other) p) [
      | inl there ↦ carry read c p (now other p) (now new p) (sym (same_other j p there.0 there.1)) (two p there.0 there.1)
      | inr none ↦ carry read c p (now old p) (now new p) (sym (same_own j p none)) (one p n (sym (j.own p none) ∙ has))
    ]
