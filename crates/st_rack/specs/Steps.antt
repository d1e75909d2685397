-- Steps of a device that clients of a rack speak of.
use Rattle.std.specs.Prelude.{◌≡◌, ◌≢◌, ◌⊎◌, ℕ, ◌+◌, ◌<◌, ◌≤◌, false, List, length, if◌then◌else◌}
use Rattle.std.specs.Str.{bytes_eq}
use Rattle.st_rack.specs.Story.{Wrote, Settled, put_in}
use Rattle.st_rack.specs.Device.{Path, DevState, State, Image, MayLeave, pending, Written}

-- What a write and a sync may do together: outside n bytes nothing else is held, and what was sure stays so.
pub record Changed (at n : ℕ) (old new : DevState) : Type 0 where
  pub below : (i : ℕ) → i < at → new.holds i ≡ old.holds i
  pub above : (i : ℕ) → at + n ≤ i → new.holds i ≡ old.holds i
  pub sure_below : (i : ℕ) → i < at → pending old i ≡ false → pending new i ≡ false
  pub sure_above : (i : ℕ) → at + n ≤ i → pending old i ≡ false → pending new i ≡ false

-- These bytes are written and then synced, or some of that.
pub record Rewriting (at : ℕ) (bytes : List ℕ) (old new : DevState) : Type 0 where
  pub changed : Changed at (length bytes) old new
  pub told : (new.story ≡ old.story) ⊎ ((new.story ≡ Wrote at bytes old.story) ⊎ ((new.story ≡ Settled new.holds (Wrote at bytes old.story)) × Written at bytes new))

-- They are written and settled.
pub record Rewritten (at : ℕ) (bytes : List ℕ) (old new : DevState) : Type 0 where
  pub changed : Changed at (length bytes) old new
  pub told : new.story ≡ Settled new.holds (Wrote at bytes old.story)
  pub given : Written at bytes new

-- the image with these bytes on a device
abbrev pub put_on : Path → ℕ → List ℕ → Image → Image
put_on dev at bytes c p = if bytes_eq p dev then put_in at bytes (c p) else c p

-- Two images agree outside n bytes of a device.
pub record SameOutside (dev : Path) (at n : ℕ) (c d : Image) : Type 0 where
  pub below : (i : ℕ) → i < at → c dev i ≡ d dev i
  pub above : (i : ℕ) → at + n ≤ i → c dev i ≡ d dev i
  pub others : (p : Path) (i : ℕ) → p ≢ dev → c p i ≡ d p i

-- Outside n bytes of a device, a crash leaves what a crash at the start could leave.
abbrev pub LeavesOutside : Path → ℕ → ℕ → State → (Image → Type 0) → Type 0
LeavesOutside dev at n start leaves = (c : Image) → leaves c → (d : Image) × MayLeave start d × SameOutside dev at n c d
