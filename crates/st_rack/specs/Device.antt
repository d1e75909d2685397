-- What a device holds, and what a crash may leave of it.
use Rattle.std.specs.Prelude.{◌≡◌, ◌⊎◌, ℕ, zero, suc, ◌+◌, ◌<◌, ◌≤◌, Bool, false, List, [], ◌∷◌, length}
use Rattle.st_rack.specs.Story.{Content, Story, Wrote, Settled, unsettled}

-- the bytes of a device's path
abbrev pub Path : Type 0
Path = List ℕ

-- a device at a moment: each byte that a read gives, and what the device was told up to then
pub record DevState : Type 0 where
  pub holds : Content
  pub story : Story

-- A byte is pending if a write touched it since the last successful sync, also one that failed.
abbrev pub pending : DevState → ℕ → Bool
pending s i = unsettled s.story i

-- each device of a rack at a moment
abbrev pub State : Type 0
State = Path → DevState

-- each device's bytes
abbrev pub Image : Type 0
Image = Path → Content

-- what reads give
abbrev pub held : State → Image
held state p = (state p).holds

-- A crash leaves each byte of a device that isn't pending as a read gives it, and anything in the others.
abbrev pub Leaves : DevState → Content → Type 0
Leaves s f = (i : ℕ) → pending s i ≡ false → f i ≡ s.holds i

-- so it is of each path
abbrev pub MayLeave : State → Image → Type 0
MayLeave state c = (p : Path) → Leaves (state p) (c p)

-- n bytes from `at` on, as a list
abbrev pub cells : Content → ℕ → ℕ → List ℕ
cells f at zero = []
cells f at (suc n) = f at ∷ cells f (at + 1) n

-- A write of these bytes at `at`, also one that fails, is told, and changes nothing outside them.
pub record Touched (at : ℕ) (bytes : List ℕ) (old new : DevState) : Type 0 where
  pub below : (i : ℕ) → i < at → new.holds i ≡ old.holds i
  pub above : (i : ℕ) → at + length bytes ≤ i → new.holds i ≡ old.holds i
  pub told : new.story ≡ Wrote at bytes old.story

-- the device holds these bytes there
abbrev pub Written : ℕ → List ℕ → DevState → Type 0
Written at bytes s = cells s.holds at (length bytes) ≡ bytes

-- While a device is synced, its content stays, and is settled at some moment or not at all.
pub record Settling (old new : DevState) : Type 0 where
  pub same : new.holds ≡ old.holds
  pub told : (new.story ≡ old.story) ⊎ (new.story ≡ Settled old.holds old.story)

-- its content has been settled: nothing is pending
pub record Synced (old new : DevState) : Type 0 where
  pub same : new.holds ≡ old.holds
  pub told : new.story ≡ Settled old.holds old.story

-- A power cut leaves one of the contents that a crash may leave, and settles it.
pub record Cut (old new : DevState) : Type 0 where
  pub left : Leaves old new.holds
  pub told : new.story ≡ Settled new.holds old.story

-- nothing of the device is pending
abbrev pub IsSure : DevState → Type 0
IsSure s = (i : ℕ) → pending s i ≡ false
