-- What a start keeps of what the devices stand for.
use Rattle.std.specs.Prelude.{◌≡◌, ℕ, Bool, List, Some, slice_get}
use Rattle.st_rack.specs.Story.{Content, FairPast}
use Rattle.st_rack.specs.Device.{Path, State, Image}
use Rattle.st_rack.specs.Left.{LeftOn}
use Rattle.st_slots.specs.declared.spot.Area.{Area}
use Rattle.st_deltalog.specs.declared.area.FlexArea.{FlexArea}
use Rattle.st_commit.specs.Standing.{owned_records, stands, AreOne}

-- No torn text was valid by chance, each time a device was settled up to now.
abbrev pub NoneByChance : Area → FlexArea → (Content → Bool) → List Path → State → Type 0
NoneByChance pool flex owns devs s = (k : ℕ) (d : Path) → slice_get devs k ≡ Some d → (i : Bool × ℕ) → FairPast (owned_records pool flex owns k i) (s d).story

-- Whatever a crash leaves now stands for what an image stands for that a crash at the start could leave.
abbrev pub StandsAlike : Area → FlexArea → (Content → Bool) → ℕ → List Path → Path → State → State → Type 0
StandsAlike pool flex owns p devs first start s = (c : Image) → LeftOn devs (owned_records pool flex owns) s c → (d : Image) × LeftOn devs (owned_records pool flex owns) start d × (stands pool flex p devs first c ≡ stands pool flex p devs first d)

-- whatever a crash leaves now is of one history
abbrev pub AllOne : Area → FlexArea → (Content → Bool) → ℕ → List Path → State → Type 0
AllOne pool flex owns p devs s = (c : Image) → LeftOn devs (owned_records pool flex owns) s c → AreOne pool p devs c
