-- What a client says of a reader: of what it looks at, what was meant for it, and a device without faults.
use Rattle.std.specs.Prelude.{◌≡◌, ℕ, ◌+◌, ◌<◌, ◌≤◌, false, Option}
use Rattle.st_rack.specs.Story.{Content, Meant, FairPast, latest}
use Rattle.st_rack.specs.Device.{DevState, pending}

-- a reader looks at n bytes from a on alone
pub record Local {X : Type 0} (read : Content → Option X) (a n : ℕ) : Type 0 where
  pub same : (f g : Content) → ((i : ℕ) → a ≤ i → i < a + n → f i ≡ g i) → read f ≡ read g

-- all that was meant reads so
abbrev pub AllMeant : {X : Type 0} → (Content → Option X) → (Option X → Type 0) → DevState → Type 0
AllMeant read P s = (m : Content) → Meant s.story m → P (read m)

-- n bytes from a on are sure
abbrev pub SureIn : ℕ → ℕ → DevState → Type 0
SureIn a n s = (i : ℕ) → a ≤ i → i < a + n → pending s i ≡ false

-- The device holds what was meant last, and for this reader each content that was settled was meant.
pub record Straight {X : Type 0} (read : Content → Option X) (s : DevState) : Type 0 where
  pub latest_is : (i : ℕ) → s.holds i ≡ latest s.story i
  pub past : FairPast read s.story
