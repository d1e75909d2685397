-- Each device of a list is synced.
use Rattle.std.proofs.Common.{◌≡◌, inl, inr, ℕ, refl, sym, subst, arith}
use Rattle.st_rack.specs.Device.{Path, DevState, State, Settling, Synced}
use Rattle.st_rack.specs.Moments.{Goes, OnDevice}
use Rattle.st_rack.proofs.Look.{same_or_other}
use Rattle.st_rack.proofs.Moments.{goes_on, at_end}
use Rattle.st_deltalog.specs.Bearing.{IsSettled}
use Rattle.st_deltalog.proofs.Restart.{synced_settled}
use Rattle.st_commit.specs.Ready.{Settles}

settling_self : (a : DevState) → Settling a a
settling_self a = record { same = refl; told = inl refl }

pub settles_self : (a : State) → Settles a a
settles_self a d = settling_self (a d)

pub settles_still : {D : Type 0} (moment : D → ℕ) (state_at : D → ℕ → State) (r : D) → Goes moment state_at Settles r r
settles_still moment state_at r = record { later = omega arith; past = λ k p le. refl; since = λ k lt le. absurd (omega arith) }

module _ {D : Type 0} (moment : D → ℕ) (state_at : D → ℕ → State) (dev : Path) where
  abbrev now : D → State
  now r = state_at r (moment r)

  -- a device is synced that none was up to now
  pub onward : (old mid new : D) → Goes moment state_at Settles old mid → now mid dev ≡ now old dev → Goes moment state_at (OnDevice dev Settling) mid new → Goes moment state_at Settles old new
  onward old mid new one untouched two =
      let first = at_end moment state_at Settles old mid (settles_self (now old)) one in
      goes_on moment state_at Settles (OnDevice dev Settling) Settles old mid new (λ b p. p) (λ s step d. both first s step d) one two
    where
      both : Settles (now old) (now mid) → (s : State) → OnDevice dev Settling (now mid) s → (d : Path) → Settling (now old d) (s d)
      both first s step d = elim (same_or_other d dev) [
        | inl e ↦ subst (λ (q : Path). Settling (now old q) (s q)) (sym e) (subst (λ (x : DevState). Settling x (s dev)) untouched step.here)
        | inr ne ↦ subst (λ (x : DevState). Settling (now old d) x) (sym (step.others d ne)) (first d)
      ]

  pub last : (mid new : D) → Goes moment state_at (OnDevice dev Settling) mid new → OnDevice dev Settling (now mid) (now new)
  last mid new time = at_end moment state_at (OnDevice dev Settling) mid new (record { here = settling_self (now mid dev); others = λ p ne. refl }) time

  pub settles : (mid new : D) → Synced (now mid dev) (now new dev) → IsSettled (now new dev)
  settles mid new synced = synced_settled (now mid dev) (now new dev) synced

  pub stays_settled : (mid new : D) → OnDevice dev Settling (now mid) (now new) → Synced (now mid dev) (now new dev) → (d : Path) → IsSettled (now mid d) → IsSettled (now new d)
  stays_settled mid new step synced d was = elim (same_or_other d dev) [
    | inl e ↦ subst (λ (q : Path). IsSettled (now new q)) (sym e) (settles mid new synced)
    | inr ne ↦ subst IsSettled (sym (step.others d ne)) was
  ]
