-- What the devices of a rack stand for is one state.
use Rattle.std.specs.Prelude.{◌≡◌}
use Rattle.st_model.specs.declared.state.EngineState.{EngineState}
use Rattle.st_rack.specs.Device.{Image}
use Rattle.st_rack.specs.Calls.{Devices}
use Rattle.st_image.specs.Rack.{RackStands}

-- Two states that the same devices stand for are one.
abbrev pub StandsAsOne : Type 0
StandsAsOne = (devs : Devices) (c : Image) (a b : EngineState) → RackStands devs c a → RackStands devs c b → a ≡ b

-- the state that the devices stand for
abbrev pub TheState : Devices → Image → Type 0
TheState devs c = (e : EngineState) × ∥ RackStands devs c e ∥₁
