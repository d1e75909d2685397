-- What is fairly left after syncs and power cuts was fairly left before them.
use Rattle.std.proofs.Common.{◌≡◌, ◌⊎◌, inl, inr, ℕ, List, Option, Some, None, refl, sym, ◌∙◌, ap, subst}
use Rattle.std.specs.List.{slice_get}
use Rattle.st_rack.specs.Story.{Content, Story, Began, Wrote, Settled, FairPast, NoChance}
use Rattle.st_rack.specs.Device.{Path, DevState, State, Image, Settling, Cut}
use Rattle.st_rack.specs.Calls.{Devices, Has}
use Rattle.st_rack.specs.Moments.{OnDevice, AllCut}
use Rattle.st_rack.specs.Left.{LeavesFairly, FairlyLeaves, LeftOn}
use Rattle.st_rack.proofs.Pending.{settling_sure, cut_sure}
use Rattle.st_rack.proofs.Look.{same_or_other}
use Rattle.st_rack.proofs.Chance.{before_settled}

-- one device
module _ {I X : Type 0} (read : I → Content → Option X) (a b : DevState) (f : Content) where
  pub left_settled : Settling a b → LeavesFairly read b f → LeavesFairly read a f
  left_settled step leaves = record {
    left = λ i sure. leaves.left i (settling_sure a b i step sure) ∙ ap (λ (h : Content). h i) step.same;
    fair = λ r. elim step.told [
      | inl same ↦ subst (λ (y : Story). NoChance (read r) y f) same (leaves.fair r)
      | inr settled ↦ before_settled (read r) a.holds a.story f (subst (λ (y : Story). NoChance (read r) y f) settled (leaves.fair r))
    ];
  }

  pub left_cut : Cut a b → LeavesFairly read b f → LeavesFairly read a f
  left_cut step leaves = record {
    left = λ i sure. leaves.left i (cut_sure a b step i) ∙ step.left i sure;
    fair = λ r. before_settled (read r) b.holds a.story f (subst (λ (y : Story). NoChance (read r) y f) step.told (leaves.fair r));
  }

-- the devices of a rack
module _ {I X : Type 0} (devs : Devices) (read : I → Path → Content → Option X) (s t : State) (c : Image) where
  -- While a device is synced, with success or without, nothing is left that could not be left before.
  pub before_sync : (dev : Path) → OnDevice dev Settling s t → FairlyLeaves devs read t c → FairlyLeaves devs read s c
  before_sync dev step leaves p n has = elim (same_or_other p dev) [
    | inl e ↦ subst (λ (q : Path). LeavesFairly (λ r. read r q) (s q) (c q)) (sym e)
        (left_settled (λ r. read r dev) (s dev) (t dev) (c dev) step.here (subst (λ (q : Path). LeavesFairly (λ r. read r q) (t q) (c q)) e (leaves p n has)))
    | inr ne ↦ subst (λ (d : DevState). LeavesFairly (λ r. read r p) d (c p)) (step.others p ne) (leaves p n has)
  ]

  -- After a power cut nothing is left but what the cut left.
  pub before_cut : AllCut devs s t → FairlyLeaves devs read t c → FairlyLeaves devs read s c
  before_cut cut leaves p n has = left_cut (λ r. read r p) (s p) (t p) (c p) (cut.here p n has) (leaves p n has)

-- the devices of a list
module _ {I X : Type 0} (list : List Path) (read : ℕ → I → Content → Option X) (s t : State) (c : Image) where
  -- The devices are what they were: so it is where a rack is split or joined.
  pub left_on_same : ((k : ℕ) (p : Path) → slice_get list k ≡ Some p → t p ≡ s p) → LeftOn list read t c → LeftOn list read s c
  left_on_same same leaves k p is = subst (λ (d : DevState). LeavesFairly (read k) d (c p)) (same k p is) (leaves k p is)

  pub left_on_sync : (dev : Path) → OnDevice dev Settling s t → LeftOn list read t c → LeftOn list read s c
  left_on_sync dev step leaves k p is = elim (same_or_other p dev) [
    | inl e ↦ subst (λ (q : Path). LeavesFairly (read k) (s q) (c q)) (sym e)
        (left_settled (read k) (s dev) (t dev) (c dev) step.here (subst (λ (q : Path). LeavesFairly (read k) (t q) (c q)) e (leaves k p is)))
    | inr ne ↦ subst (λ (d : DevState). LeavesFairly (read k) d (c p)) (step.others p ne) (leaves k p is)
  ]

  pub left_on_cut : (devs : Devices) → ((k : ℕ) (p : Path) → slice_get list k ≡ Some p → (n : ℕ) × Has devs p n) → AllCut devs s t → LeftOn list read t c → LeftOn list read s c
  left_on_cut devs there cut leaves k p is =
      let has = there k p is in
      left_cut (read k) (s p) (t p) (c p) (cut.here p has.0 has.1) (leaves k p is)

-- a reader that never finds anything
abbrev pub finds_nothing : (X : Type 0) → Content → Option X
finds_nothing X f = None

nothing_past : (X : Type 0) (story : Story) → FairPast (finds_nothing X) story
nothing_past X (Began f) = tt
nothing_past X (Wrote at bytes story) = nothing_past X story
nothing_past X (Settled f story) = (record { found = inl refl }, nothing_past X story)

nothing_chance : (X : Type 0) (story : Story) (c : Content) → NoChance (finds_nothing X) story c
nothing_chance X story c = record { now = record { found = inl refl }; past = nothing_past X story }

-- What is fairly left of a rack is fairly left on devices of it: each role reads as one of the rack's readers does there, or not at all.
module _ {I J X : Type 0} (devs : Devices) (list : List Path) (read : I → Path → Content → Option X) (role : ℕ → J → Content → Option X) (s : State) (c : Image)
    (there : (k : ℕ) (p : Path) → slice_get list k ≡ Some p → (n : ℕ) × Has devs p n)
    (roles : (k : ℕ) (p : Path) (j : J) → slice_get list k ≡ Some p → ((i : I) × (read i p ≡ role k j)) ⊎ (finds_nothing X ≡ role k j)) where
  pub left_on_rack : FairlyLeaves devs read s c → LeftOn list role s c
  left_on_rack leaves k p is =
      let has = there k p is in
      let here = leaves p has.0 has.1 in
      record {
        left = here.left;
        fair = λ j. elim (roles k p j is) [
          | inl some ↦ subst (λ (f : Content → Option X). NoChance f (s p).story (c p)) some.1 (here.fair some.0)
          | inr none ↦ subst (λ (f : Content → Option X). NoChance f (s p).story (c p)) none (nothing_chance X (s p).story (c p))
        ];
      }
