-- The clock of a rack, and what a call does to the states that the rack has had.
use Rattle.std.specs.Prelude.{◌≡◌, ◌≢◌, ℕ, ◌≤◌, ◌<◌, IsNone}
use Rattle.st_rack.specs.Device.{Path, DevState, State, Image, MayLeave, Cut}
use Rattle.st_rack.specs.Calls.{Devices, Has, sectors_of}

-- A crash at some moment from t on may have left this.
pub record LeftSince {D : Type 0} (moment : D → ℕ) (state_at : D → ℕ → State) (rack : D) (t : ℕ) (c : Image) : Type 0 where
  pub at : ℕ
  pub from : t ≤ at
  pub until : at ≤ moment rack
  pub left : MayLeave (state_at rack at) c

-- Time goes on: what was, stays, and each state since is a step from the one at the start.
pub record Goes {D : Type 0} (moment : D → ℕ) (state_at : D → ℕ → State) (step : State → State → Type 0) (old new : D) : Type 0 where
  pub later : moment old ≤ moment new
  pub past : (k : ℕ) (p : Path) → k ≤ moment old → state_at new k p ≡ state_at old k p
  pub since : (k : ℕ) → moment old < k → k ≤ moment new → step (state_at old (moment old)) (state_at new k)

-- This holds of the state at each moment from the one of `old` on.
abbrev pub Always : {D : Type 0} → (D → ℕ) → (D → ℕ → State) → (State → Type 0) → D → D → Type 0
Always moment state_at holds old new = (k : ℕ) → moment old ≤ k → k ≤ moment new → holds (state_at new k)

-- Time goes on: what was, stays, and this holds at each moment from the start on. (Of devices that an absorbed rack brings, only
-- the last is true.)
pub record Keeps {D : Type 0} (moment : D → ℕ) (state_at : D → ℕ → State) (holds : State → Type 0) (old new : D) : Type 0 where
  pub later : moment old ≤ moment new
  pub past : (k : ℕ) (p : Path) → k ≤ moment old → state_at new k p ≡ state_at old k p
  pub all : Always moment state_at holds old new

-- a step on one device
pub record OnDevice (dev : Path) (step : DevState → DevState → Type 0) (old new : State) : Type 0 where
  pub here : step (old dev) (new dev)
  pub others : (p : Path) → p ≢ dev → new p ≡ old p

-- a power cut of each device of the rack
pub record AllCut (devs : Devices) (old new : State) : Type 0 where
  pub here : (p : Path) (n : ℕ) → Has devs p n → Cut (old p) (new p)
  pub others : (p : Path) → IsNone (sectors_of devs p) → new p ≡ old p
