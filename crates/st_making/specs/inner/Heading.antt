-- What a device is while its header is written.
use Rattle.std.specs.Prelude.{◌≡◌, ◌⊎◌, ℕ, List, Some, slice_get}
use Rattle.st_header.specs.Header.{header_text}
use Rattle.st_rack.specs.Device.{Path, DevState, State}
use Rattle.st_rack.specs.Calls.{Devices}
use Rattle.st_rack.specs.Steps.{Rewriting, Rewritten}
use Rattle.st_commit.specs.Ready.{IsOf}
use Rattle.st_image.specs.Bears.{paths}

-- where the two copies begin
abbrev pub second_copy : ℕ
second_copy = 4608

abbrev pub first_copy : ℕ
first_copy = 512

-- nothing was done, or the second copy was written, or some of that, or besides the first copy, or some of that
abbrev pub Heading : List ℕ → DevState → DevState → Type 0
Heading text a s = (s ≡ a) ⊎ (Rewriting second_copy text a s ⊎ ((b : DevState) × Rewritten second_copy text a b × Rewriting first_copy text b s))

-- both copies were written
abbrev pub Headed : List ℕ → DevState → DevState → Type 0
Headed text a s = (b : DevState) × Rewritten second_copy text a b × Rewritten first_copy text b s

-- so it is of each device of a pool, and others are untouched
pub record AllHeading (p : ℕ) (devs : Devices) (a s : State) : Type 0 where
  pub here : (k : ℕ) (d : Path × ℕ) → slice_get devs k ≡ Some d → Heading (header_text p d.1) (a d.0) (s d.0)
  pub others : (d : Path) → (IsOf (paths devs) d → ⊥) → s d ≡ a d

pub record AllHeaded (p : ℕ) (devs : Devices) (a s : State) : Type 0 where
  pub here : (k : ℕ) (d : Path × ℕ) → slice_get devs k ≡ Some d → Headed (header_text p d.1) (a d.0) (s d.0)
  pub others : (d : Path) → (IsOf (paths devs) d → ⊥) → s d ≡ a d
