-- A run that is handed a blank rack of the program's devices.
use Rattle.std.proofs.Common.{◌≡◌, ℕ, [], ◌∷◌, ap, ◌∙◌, subst}
use Rattle.st_rack.specs.Device.{Path, DevState, State, Image, held}
use Rattle.st_rack.specs.Calls.{Devices}
use Rattle.st_memrack.specs.Blank.{IsBlank}
use Rattle.st_image.specs.Rack.{RackStands, IsForeign}
use Rattle.st_blank.specs.Blank.{AreBlank, unused}
use Rattle.st_blank.proofs.Blank.{blank_stands, blank_not_foreign}
use Rattle.sim_devices.specs.Devices.{the_devices}

all_blank : (c : Image) (devs : Devices) → ((p : Path) (i : ℕ) → c p i ≡ 0) → AreBlank devs c
all_blank c [] zero_at = tt
all_blank c (d ∷ ds) zero_at = (zero_at d.0, all_blank c ds zero_at)

module _ {D : Type 0} (devs : D → Devices) (moment : D → ℕ) (state_at : D → ℕ → State) (reads : D → Path → ℕ) (rack : D) (blank : IsBlank devs moment state_at reads the_devices rack) where
  now_blank : AreBlank (devs rack) (held (state_at rack (moment rack)))
  now_blank = all_blank (held (state_at rack (moment rack))) (devs rack) (λ p i. ap (λ (n : ℕ). (state_at rack n p).holds i) blank.clock ∙ ap (λ (s : DevState). s.holds i) (blank.zeros p))

  pub begins : devs rack ≡ the_devices → RackStands (devs rack) (held (state_at rack (moment rack))) (unused the_devices)
  begins is = subst (λ (ds : Devices). RackStands (devs rack) (held (state_at rack (moment rack))) (unused ds)) is (blank_stands (devs rack) (held (state_at rack (moment rack))) now_blank)

  pub not_foreign : (n : ℕ) → IsForeign (devs rack) (held (state_at rack (moment rack))) n → ⊥
  not_foreign n foreign = blank_not_foreign (devs rack) (held (state_at rack (moment rack))) n now_blank foreign
