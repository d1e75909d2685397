-- A rack is split into two, and two are joined, device by device.
use Rattle.std.specs.Prelude.{◌≡◌, ℕ, ◌≤◌, ◌<◌, ◌+◌, true, false, List, length, None, IsNone, if◌then◌else◌}
use Rattle.st_rack.specs.Device.{Path, State}
use Rattle.st_rack.specs.Calls.{Devices, Has, sectors_of, names}

-- Devices, clock, states and reads are as they were.
pub record IsSame {D : Type 0} (devs : D → Devices) (moment : D → ℕ) (state_at : D → ℕ → State) (reads : D → Path → ℕ) (old new : D) : Type 0 where
  pub devices : devs new ≡ devs old
  pub clock : moment new ≡ moment old
  pub states : state_at new ≡ state_at old
  pub counts : reads new ≡ reads old

-- The devices of the list are in the part and the others in the rest, and both go on from the old clock. At each moment up to the
-- call, each device was what it was in the old rack, on the side that has it now.
pub record Splits {D : Type 0} (devs : D → Devices) (moment : D → ℕ) (state_at : D → ℕ → State) (list : List Path) (old rest part : D) : Type 0 where
  pub stay : (p : Path) → sectors_of (devs rest) p ≡ (if names list p then None else sectors_of (devs old) p)
  pub go : (p : Path) → sectors_of (devs part) p ≡ (if names list p then sectors_of (devs old) p else None)
  pub count : length (devs rest) + length (devs part) ≡ length (devs old)
  pub listed : length (devs part) ≡ length list
  pub clock : moment rest ≡ moment old
  pub clock_gone : moment part ≡ moment old
  pub states : (k : ℕ) (p : Path) → names list p ≡ false → k ≤ moment old → state_at rest k p ≡ state_at old k p
  pub states_gone : (k : ℕ) (p : Path) → names list p ≡ true → k ≤ moment old → state_at part k p ≡ state_at old k p

-- the first rack has no device of the second
abbrev pub AreApart : {D : Type 0} → (D → Devices) → D → D → Type 0
AreApart devs one other = (p : Path) (n : ℕ) → Has (devs other) p n → IsNone (sectors_of (devs one) p)

-- The joined rack has the devices of both, and goes on from the clock of the one that took the other in. Up to the call, its own
-- devices were what they were, and the others are taken as what they are now.
pub record Joins {D : Type 0} (devs : D → Devices) (moment : D → ℕ) (state_at : D → ℕ → State) (old other new : D) : Type 0 where
  pub own : (p : Path) → IsNone (sectors_of (devs other) p) → sectors_of (devs new) p ≡ sectors_of (devs old) p
  pub others : (p : Path) (n : ℕ) → Has (devs other) p n → Has (devs new) p n
  pub count : length (devs new) ≡ length (devs old) + length (devs other)
  pub later : moment old ≤ moment new
  pub states : (k : ℕ) (p : Path) → IsNone (sectors_of (devs other) p) → k ≤ moment old → state_at new k p ≡ state_at old k p
  pub since : (k : ℕ) (p : Path) → IsNone (sectors_of (devs other) p) → moment old < k → k ≤ moment new → state_at new k p ≡ state_at old (moment old) p
  pub states_others : (k : ℕ) (p : Path) (n : ℕ) → Has (devs other) p n → k ≤ moment new → state_at new k p ≡ state_at other (moment other) p
