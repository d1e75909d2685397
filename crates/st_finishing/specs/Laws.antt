-- What is true of a rack that is being finished.
use Rattle.st_model.specs.declared.state.EngineState.{EngineState}
use Rattle.st_rack.specs.Device.{Image}
use Rattle.st_rack.specs.Calls.{Devices, Rises}
use Rattle.st_image.specs.Rack.{RackStands}
use Rattle.st_parting.specs.Found.{AllFinished}
use Rattle.st_finishing.specs.Finishing.{IsFinished, IsFinishing, StandsStill}

-- Its devices go on standing for the state.
abbrev pub FinishingStands : Type 0
FinishingStands = (devs : Devices) (a c : Image) (e : EngineState) → Rises devs → RackStands devs a e → IsFinishing devs a c → StandsStill e devs c

-- Once all is written, nothing is left to be finished.
abbrev pub FinishedIsAll : Type 0
FinishedIsAll = (devs : Devices) (a c : Image) (e : EngineState) → Rises devs → RackStands devs a e → IsFinishing devs a c → IsFinished devs a c → AllFinished devs c
