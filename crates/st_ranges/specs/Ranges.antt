-- Ranges of bytes on devices, and what calls leave that write within some of them alone.
use Rattle.std.specs.Prelude.{◌≡◌, ◌⊎◌, ℕ, ◌+◌, ◌≤◌, Bool, false, ◌&&◌, ◌||◌, bytes_eq, List, [], ◌∷◌}
use Rattle.st_rack.specs.Story.{Content, Meant, Grows, within}
use Rattle.st_rack.specs.Device.{Path, DevState, State, Image, pending, cells}

-- bytes of a device: the first of them, and how many
abbrev pub Range : Type 0
Range = Path × ℕ × ℕ

-- whether a byte of a device lies in one of the ranges
abbrev pub covers : List Range → Path → ℕ → Bool
covers [] d i = false
covers (q ∷ qs) d i = (bytes_eq q.0 d && within q.1 q.2 i) || covers qs d i

-- what an image has in a range
abbrev pub bytes_in : Image → Range → List ℕ
bytes_in c q = cells (c q.0) q.1 q.2

-- Two ranges have no byte in common.
abbrev pub AreApart : Range → Range → Type 0
AreApart q r = (q.0 ≡ r.0) → (q.1 + q.2 ≤ r.1) ⊎ (r.1 + r.2 ≤ q.1)

-- But for these bytes a content is one that was meant, or what was held.
pub record Recalls (w : ℕ → Bool) (old : DevState) (m : Content) : Type 0 where
  pub from : Content
  pub known : Meant old.story from ⊎ (from ≡ old.holds)
  pub alike : (i : ℕ) → w i ≡ false → m i ≡ from i

-- A device was written within these bytes alone, and perhaps synced: the others are what they were, stay sure where they were, and
-- nothing else was meant for them.
pub record Worked (w : ℕ → Bool) (old new : DevState) : Type 0 where
  pub same : (i : ℕ) → w i ≡ false → new.holds i ≡ old.holds i
  pub sure : (i : ℕ) → w i ≡ false → pending old i ≡ false → pending new i ≡ false
  pub told : (m : Content) → Meant new.story m → Recalls w old m
  pub grows : Grows old.story new.story

-- So it was of each device, within the bytes that the ranges have there.
abbrev pub Works : List Range → State → State → Type 0
Works ranges old new = (p : Path) → Worked (covers ranges p) (old p) (new p)

-- Outside the ranges what is sure stays so: what was written elsewhere is settled.
abbrev pub SettledOutside : List Range → State → State → Type 0
SettledOutside ranges old new = (p : Path) (i : ℕ) → covers ranges p i ≡ false → pending (old p) i ≡ false → pending (new p) i ≡ false
