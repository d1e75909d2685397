-- What calls on devices leave as it was.
use Rattle.std.specs.Prelude.{◌≡◌, ◌⊎◌, ℕ, ◌+◌, ◌<◌, ◌≤◌, Bool, true, false, ◌&&◌, ◌||◌, bytes_eq, List, [], ◌∷◌, slice_get, Some, if◌then◌else◌}
use Rattle.st_rack.specs.Story.{Content, Meant, within, put_in}
use Rattle.st_rack.specs.Device.{Path, DevState, State, Image, pending}
use Rattle.st_image.specs.Looks.{Look, looks, looked_at, is_first, records_end}
use Rattle.st_image.specs.Stands.{Range}

-- whether a byte of a device lies in one of the ranges
abbrev pub covers : List Range → Path → ℕ → Bool
covers [] d i = false
covers (q ∷ qs) d i = (bytes_eq q.0 d && within q.1 q.2 i) || covers qs d i

-- Outside these ranges each byte is what it was, and stays sure where it was.
pub record Moved (w : List Range) (a s : State) : Type 0 where
  pub same : (d : Path) (i : ℕ) → covers w d i ≡ false → (s d).holds i ≡ (a d).holds i
  pub sure : (d : Path) (i : ℕ) → covers w d i ≡ false → pending (a d) i ≡ false → pending (s d) i ≡ false

-- The records of a device were left alone: their bytes, and what was meant for them since.
pub record StillRecords (first : Bool) (a s : DevState) : Type 0 where
  pub same : (i : ℕ) → i < records_end first → s.holds i ≡ a.holds i
  pub sure : (i : ℕ) → i < records_end first → pending a i ≡ false → pending s i ≡ false
  pub recalls : (l : Look) → looked_at first l ≡ true → (m : Content) → Meant s.story m
      → ((n : Content) × Meant a.story n × (looks l m ≡ looks l n)) ⊎ (looks l m ≡ looks l a.holds)

-- so it is of each device of a pool
abbrev pub Still : List Path → State → State → Type 0
Still devs a s = (k : ℕ) (d : Path) → slice_get devs k ≡ Some d → StillRecords (is_first k) (a d) (s d)

-- The image is this other one on a range, but for bytes in some ranges.
abbrev pub AgreesOn : Range → List Range → Image → Image → Type 0
AgreesOn q loose c m = (i : ℕ) → q.1 ≤ i → i < q.1 + q.2 → covers loose q.0 i ≡ false → c q.0 i ≡ m q.0 i

-- The bytes of a range are sure.
abbrev pub SureOn : Range → State → Type 0
SureOn q s = (i : ℕ) → q.1 ≤ i → i < q.1 + q.2 → pending (s q.0) i ≡ false

-- the image with these bytes
abbrev pub written : Path → ℕ → List ℕ → Image → Image
written dev at bytes c d = if bytes_eq d dev then put_in at bytes (c d) else c d

-- where records stand on the devices of a pool
abbrev pub record_ranges : Bool → List Path → List Range
record_ranges first [] = []
record_ranges first (d ∷ ds) = (d, 0, records_end first) ∷ record_ranges false ds
