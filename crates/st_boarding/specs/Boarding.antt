-- What a rack is divided into, where a state was found on it.
use Rattle.std.specs.Prelude.{◌≡◌, ◌≤◌, ℕ, List, map}
use Rattle.st_model.specs.declared.state.EngineState.{EngineState}
use Rattle.st_model.specs.Parts.{table_of}
use Rattle.st_rack.specs.Device.{State, held}
use Rattle.st_rack.specs.Calls.{Devices}
use Rattle.st_assemble.specs.Found.{row_of}
use Rattle.st_parting.specs.Found.{AllFinished, IsFoundOn}
use Rattle.st_pool.specs.Halts.{HaltedView}
use Rattle.st_pool.specs.View.{now}
use Rattle.st_dividing.specs.Divided.{AreRowsApart, AreTold, Divides}
use Rattle.st_board.specs.Holds.{HasOthers, KeepsTable, halted_at, stopped_at}

-- The rows of the pools that were found name no device twice.
abbrev pub FoundLieApart : Type 0
FoundLieApart = (devs : Devices) (s : State) (e : EngineState) → IsFoundOn devs s e → AreRowsApart devs (map row_of e.pools)

module _ {D : Type 0} (devs : D → Devices) (moment : D → ℕ) (state_at : D → ℕ → State) (faults spare : D → ℕ) where
  -- Where pools that are gone are finished, the racks that it is divided into keep the table of the state, also with a higher next serial.
  abbrev pub DividedKeeps : D → D → Type 0
  DividedKeeps old rest = (e later : EngineState) (parts : List (HaltedView D)) → IsFoundOn (devs old) (now moment state_at old) e → AllFinished (devs old) (held (now moment state_at old))
      → later.pools ≡ e.pools → later.devices ≡ e.devices → e.next ≤ later.next → Divides devs moment state_at faults spare old rest parts → AreTold devs moment state_at faults spare old (map row_of e.pools) parts
      → KeepsTable devs moment state_at (table_of later) rest parts

  -- And a pool that lacks a device has each other device of its rows that the engine has.
  abbrev pub DividedLacks : D → D → Type 0
  DividedLacks old rest = (e later : EngineState) (parts : List (HaltedView D)) → IsFoundOn (devs old) (now moment state_at old) e → AllFinished (devs old) (held (now moment state_at old))
      → later.pools ≡ e.pools → later.devices ≡ e.devices → e.next ≤ later.next → Divides devs moment state_at faults spare old rest parts → AreTold devs moment state_at faults spare old (map row_of e.pools) parts
      → (q : ℕ) → HasOthers devs (table_of later).devices (stopped_at q (table_of later).stopped) (halted_at q parts)
