-- What is fair of a story, and what a power cut leaves.
use Rattle.std.proofs.Common.{◌≡◌, ◌⊎◌, inl, inr, Option, None, refl, sym, ◌∙◌, ap, subst}
use Rattle.st_rack.specs.Story.{Content, Story, Began, Wrote, Settled, latest, Meant, Fair, NoChance}
use Rattle.st_rack.specs.Device.{DevState, State, MayLeave, held}
use Rattle.st_rack.specs.Calls.{Devices}
use Rattle.st_rack.specs.Moments.{AllCut}
use Rattle.st_rack.proofs.Look.{has_or_not}

pub latest_meant : (story : Story) → Meant story (latest story)
latest_meant (Began f) = refl
latest_meant (Wrote at bytes story) = inl refl
latest_meant (Settled f story) = refl

-- what reads as the content that is meant now is fair with no premise
pub fair_latest : {X : Type 0} (read : Content → Option X) (story : Story) (c : Content) → read c ≡ read (latest story) → Fair read story c
fair_latest read story c same = record { found = inr (latest story, latest_meant story, same) }

-- what holds of nothing and of all that was meant holds of what is found
pub found_in : {X : Type 0} (read : Content → Option X) (P : Option X → Type 0) (story : Story) (c : Content) → P None → ((m : Content) → Meant story m → P (read m)) → Fair read story c → P (read c)
found_in read P story c none all fair = elim fair.found [
  | inl nothing ↦ subst P (sym nothing) none
  | inr like ↦ subst P (sym like.2) (all like.0 like.1)
]

-- what a read gives is one of the images that a crash may leave
pub held_left : (s : State) → MayLeave s (held s)
held_left s = λ p i sure. refl

-- what is fair after a content was settled was fair before
pub before_settled : {X : Type 0} (read : Content → Option X) (f : Content) (story : Story) (c : Content) → NoChance read (Settled f story) c → NoChance read story c
before_settled read f story c chance = record { now = record { found = found_now chance.now.found }; past = chance.past.1 }
  where
    found_now : (read c ≡ None) ⊎ ((m : Content) × (m ≡ f) × (read c ≡ read m)) → (read c ≡ None) ⊎ ((m : Content) × Meant story m × (read c ≡ read m))
    found_now (inl nothing) = inl nothing
    found_now (inr like) =
        let same = like.2 ∙ ap read like.1 in
        elim chance.past.0.found [
          | inl nothing ↦ inl (same ∙ nothing)
          | inr before ↦ inr (before.0, before.1, same ∙ before.2)
        ]

-- a power cut leaves one of the images that a crash may leave
pub cut_left : (devs : Devices) (s t : State) → AllCut devs s t → MayLeave s (held t)
cut_left devs s t cut = λ p i sure. elim (has_or_not devs p) [
  | inl has ↦ (cut.here p has.0 has.1).left i sure
  | inr no_device ↦ ap (λ (d : DevState). d.holds i) (cut.others p no_device)
]
