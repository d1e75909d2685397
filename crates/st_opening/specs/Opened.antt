-- A rack that is opened: each device is synced and read, and pools that are gone are finished.
use Rattle.std.specs.Prelude.{◌≡◌, map}
use Rattle.st_model.specs.declared.state.EngineState.{EngineState}
use Rattle.st_rack.specs.Device.{State, Image, held}
use Rattle.st_rack.specs.Calls.{Devices}
use Rattle.st_rack.specs.Left.{FairlyLeaves}
use Rattle.st_image.specs.Rack.{RackStands}
use Rattle.st_assemble.specs.Found.{row_of}
use Rattle.st_assemble.specs.declared.taking.Found.{Found}
use Rattle.st_finishing.specs.Finishing.{FoundStill, StandsStill, heads}

-- What was found tells the state that the devices stood for as they were read first, and they stand for it still, but for a next serial
-- that may be lower; nothing is pending, and nothing is left to be finished.
pub record IsOpened (devs : Devices) (start s : State) (found : Found) : Type 0 where
  pub state : EngineState
  pub stood : RackStands devs (held start) state
  pub pools : found.pools ≡ map row_of state.pools
  pub next : found.next ≡ state.next
  pub still : FoundStill state devs s

-- Whatever a crash now fairly leaves stands for what something stands for that a crash at the start could fairly leave, but for a next
-- serial that may be lower.
abbrev pub LeavesAlike : Devices → State → State → Type 0
LeavesAlike devs start s = (c : Image) → FairlyLeaves devs heads s c → (m : Image) × FairlyLeaves devs heads start m × ((e : EngineState) → RackStands devs m e → StandsStill e devs c)
