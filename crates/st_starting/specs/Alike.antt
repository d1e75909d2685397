-- What a crash leaves of a pool while it is started.
use Rattle.std.specs.Prelude.{ℕ, Option}
use Rattle.st_model.specs.declared.state.PoolState.{PoolState}
use Rattle.st_rack.specs.Device.{State, Image}
use Rattle.st_rack.specs.Calls.{Devices}
use Rattle.st_image.specs.Left.{LeftOf}
use Rattle.st_image.specs.Stands.{StandsFor}
use Rattle.st_image.specs.Calm.{ForNoOther}

-- What the first image stands for the other stands for too; and then, where no device of the first by itself stands for another pool, none
-- of the other does.
abbrev pub StandsAs : ℕ → Devices → Image → Image → Type 0
StandsAs p devs d c = (found : Option PoolState) → StandsFor p devs d found → StandsFor p devs c found × (ForNoOther p devs d → ForNoOther p devs c)

-- The image stands for what one stands for that a crash at the start could leave.
pub record WasLeft (p : ℕ) (devs : Devices) (start : State) (c : Image) : Type 0 where
  pub image : Image
  pub left : LeftOf p devs start image
  pub same : StandsAs p devs image c

-- so does whatever a crash leaves now
abbrev pub StandsAlike : ℕ → Devices → State → State → Type 0
StandsAlike p devs start s = (c : Image) → LeftOf p devs s c → WasLeft p devs start c
