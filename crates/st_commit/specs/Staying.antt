-- What a pool's records stay through.
use Rattle.std.specs.Prelude.{◌≡◌, ◌⊎◌, ℕ, ◌+◌, ◌*◌, ◌<◌, ◌≤◌, false, List}
use Rattle.st_rack.specs.Story.{Content, Meant}
use Rattle.st_rack.specs.Device.{Path, DevState, State, pending}
use Rattle.st_slots.specs.declared.spot.Area.{Area}
use Rattle.st_deltalog.specs.declared.area.FlexArea.{FlexArea}
use Rattle.st_commit.specs.Ready.{IsOf}

-- a byte of one of an area's slots
pub record InsideOf (area : Area) (i : ℕ) : Type 0 where
  pub from : 512 * area.at ≤ i
  pub until : i < 512 * (area.at + 2 * area.slot)

-- The bytes of an area are left alone on a device: they are what they were, sure ones stay sure, and whatever is meant for them was meant
-- or held before.
pub record LeftAlone (area : Area) (a s : DevState) : Type 0 where
  pub same : (i : ℕ) → InsideOf area i → s.holds i ≡ a.holds i
  pub sure : (i : ℕ) → InsideOf area i → pending a i ≡ false → pending s i ≡ false
  pub meant : (m : Content) → Meant s.story m → (k : Content) × (Meant a.story k ⊎ (k ≡ a.holds)) × ((i : ℕ) → InsideOf area i → m i ≡ k i)

-- so are a pool's slots: those for records on each device, and those for checkpoints on the first
pub record SlotsAlone (pool : Area) (flex : FlexArea) (devs : List Path) (first : Path) (a s : State) : Type 0 where
  pub records : (d : Path) → IsOf devs d → LeftAlone pool (a d) (s d)
  pub log : LeftAlone flex.area (a first) (s first)
