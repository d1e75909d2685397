-- The engine begins on a rack.
use Rattle.std.specs.Prelude.{◌≡◌, ℕ, ◌<◌, ◌≤◌, [], true, min, map}
use Rattle.st_model.specs.declared.state.EngineState.{EngineState}
use Rattle.st_model.specs.Parts.{started, table_of}
use Rattle.st_model.specs.Valid.{IsValid}
use Rattle.st_rack.specs.Device.{Path, State, held}
use Rattle.st_rack.specs.Calls.{Devices, Has, sectors_of}
use Rattle.st_rack.specs.Moments.{Keeps}
use Rattle.st_image.specs.Rack.{RackStands}
use Rattle.st_assemble.specs.declared.taking.Found.{Found}
use Rattle.st_assemble.specs.Found.{row_of}
use Rattle.st_finishing.specs.Finishing.{FoundStill}
use Rattle.st_opening.specs.Opened.{LeavesAlike}
use Rattle.st_dividing.specs.Divided.{Divides}
use Rattle.st_pool.specs.View.{now}
use Rattle.st_board.specs.View.{BoardView, faults_of, last, slack_of}

-- This was found of a valid state, for which the devices stand still; nothing is pending, and nothing is left to be finished.
pub record IsAtRest (devs : Devices) (s : State) (found : Found) (e : EngineState) : Type 0 where
  pub pools : found.pools ≡ map row_of e.pools
  pub next : found.next ≡ e.next
  pub valid : IsValid e
  pub still : FoundStill e devs s

module _ {D : Type 0} (devs : D → Devices) (moment : D → ℕ) (state_at : D → ℕ → State) (faults : D → ℕ) where
  -- The rack has the devices of the other, each as it is there, and no lower count of faults, as long as the count goes.
  pub record IsRejoined (old r : D) : Type 0 where
    pub devices : (p : Path) → sectors_of (devs r) p ≡ sectors_of (devs old) p
    pub same : (p : Path) (n : ℕ) → Has (devs old) p n → now moment state_at r p ≡ now moment state_at old p
    pub counts : faults r < last → faults old ≤ faults r

  -- The rack that comes back: it has the devices of the old one, and what a crash leaves of it stands for what a crash of the old one
  -- could have left. So it was at each moment up to one from which on no device was called.
  pub record IsBack (old r : D) : Type 0 where
    pub opened : D
    pub during : Keeps moment state_at (LeavesAlike (devs old) (now moment state_at old)) old opened
    pub rejoined : IsRejoined opened r
    pub devices : (p : Path) → sectors_of (devs r) p ≡ sectors_of (devs old) p
    pub alike : LeavesAlike (devs old) (now moment state_at old) (now moment state_at r)
    pub counts : faults r < last → faults old ≤ faults r

  module _ (spare : D → ℕ) where
    -- The board of a state that was found on a rack: each pool is on a rack of its own, and no fault is counted.
    pub record IsBoardOf (opened : D) (e : EngineState) (b : BoardView D) : Type 0 where
      pub stands : b.state ≡ table_of e
      pub shown : b.spare ≡ true
      pub none : faults_of b ≡ 0
      pub past : b.past ≡ 0
      pub divided : Divides devs moment state_at faults spare opened b.free b.halted

    -- The engine began on this rack: the board is that of the state for which the devices stood as they read, in which no pool is
    -- started. The rack was divided after it was opened, and up to then what a crash left stood for what a crash at the start could
    -- have left.
    pub record HasBegun (old : D) (b : BoardView D) : Type 0 where
      pub state : EngineState
      pub stood : RackStands (devs old) (held (now moment state_at old)) state
      pub valid : IsValid state
      pub idle : started state ≡ []
      pub opened : D
      pub same_devs : devs opened ≡ devs old
      pub during : Keeps moment state_at (LeavesAlike (devs old) (now moment state_at old)) old opened
      pub board : IsBoardOf opened state b
      pub slack : min (faults old) last ≤ slack_of faults b
