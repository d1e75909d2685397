-- What the devices of a rack stand for is a valid state.
use Rattle.st_model.specs.declared.state.EngineState.{EngineState}
use Rattle.st_model.specs.Valid.{IsValid}
use Rattle.st_rack.specs.Device.{Image}
use Rattle.st_rack.specs.Calls.{Devices, IsFit, Rises}
use Rattle.st_image.specs.Rack.{RackStands}

-- The devices stand in order, and a run can bear their number and sizes.
abbrev pub FoundIsValid : Type 0
FoundIsValid = (devs : Devices) (c : Image) (e : EngineState) → RackStands devs c e → Rises devs → IsFit devs → IsValid e
