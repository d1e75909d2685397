-- What clearing makes of devices, at each moment and at its end.
use Rattle.std.specs.Prelude.{◌≡◌, ◌⊎◌, ℕ, List, [], ◌∷◌, replicate, Some, slice_get}
use Rattle.st_rack.specs.Device.{Path, DevState, State}
use Rattle.st_rack.specs.Steps.{Rewriting, Rewritten}
use Rattle.st_commit.specs.Ready.{IsOf}

-- a sector of zeros
abbrev pub zeros : List ℕ
zeros = replicate 512 0

-- where they are written, in this order: over the second and the first copy of the header, and over the first sector of each slot for pool records
abbrev pub places : List ℕ
places = 4608 ∷ 512 ∷ 8192 ∷ 40960 ∷ []

-- nothing was done, or some of the first write and its sync, or both, and then so with the places behind
abbrev pub Clearing : List ℕ → DevState → DevState → Type 0
Clearing [] a s = s ≡ a
Clearing (at ∷ behind) a s = (s ≡ a) ⊎ (Rewriting at zeros a s ⊎ ((b : DevState) × Rewritten at zeros a b × Clearing behind b s))

-- each was written and settled
abbrev pub Cleared : List ℕ → DevState → DevState → Type 0
Cleared [] a s = s ≡ a
Cleared (at ∷ behind) a s = (b : DevState) × Rewritten at zeros a b × Cleared behind b s

-- so it is of each device of a list, and others are untouched
pub record AllClearing (devs : List Path) (a s : State) : Type 0 where
  pub here : (k : ℕ) (d : Path) → slice_get devs k ≡ Some d → Clearing places (a d) (s d)
  pub others : (d : Path) → (IsOf devs d → ⊥) → s d ≡ a d

pub record AllCleared (devs : List Path) (a s : State) : Type 0 where
  pub here : (k : ℕ) (d : Path) → slice_get devs k ≡ Some d → Cleared places (a d) (s d)
  pub others : (d : Path) → (IsOf devs d → ⊥) → s d ≡ a d
