-- The devices that no known pool uses.
use Rattle.std.specs.Prelude.{◌≡◌, ℕ, ◌<◌, ◌≤◌, None}
use Rattle.st_model.specs.declared.state.EngineState.{EngineState}
use Rattle.st_model.specs.Look.{pool_using}
use Rattle.st_rack.specs.Device.{Path, DevState, State, held}
use Rattle.st_rack.specs.Calls.{Devices, Has}
use Rattle.st_deltalog.specs.Bearing.{IsSettled}
use Rattle.st_commit.specs.Standing.{keep}
use Rattle.st_image.specs.Looks.{slot_on}
use Rattle.st_image.specs.Bears.{newest_on}
use Rattle.st_image.specs.Kept.{NoneOrGone}
use Rattle.st_image.specs.EngineKept.{IsClaimed}
use Rattle.st_parting.specs.Found.{IsFoundOn, AllFinished}

-- A free device of so many sectors: nothing is pending, read alone it stands for no pool, and none of its slots for records is of a pool
-- that is known or that may come.
pub record IsFreeIn (e : EngineState) (sectors : ℕ) (s : DevState) : Type 0 where
  pub settled : IsSettled s
  pub alone : (q : ℕ) → NoneOrGone (newest_on q sectors s.holds)
  pub silent : (place : ℕ) → place < 2 → (q : ℕ) → IsClaimed e q → keep q (slot_on sectors place s.holds) ≡ None

-- Once pools that are gone are finished, each device that no known pool uses is free, also in a state whose next serial is higher.
abbrev pub OthersAreFree : Type 0
OthersAreFree = (devs : Devices) (s : State) (e later : EngineState) → IsFoundOn devs s e → AllFinished devs (held s) → later.pools ≡ e.pools → e.next ≤ later.next
    → (p : Path) (n : ℕ) → Has devs p n → pool_using p e.pools ≡ None → IsFreeIn later n (s p)
