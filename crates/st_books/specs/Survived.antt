-- What a crash leaves of a pool at a moment of an operation.
use Rattle.std.specs.Prelude.{◌≡◌, ◌⊎◌, ℕ, Option, Some, None, if◌then◌else◌}
use Rattle.st_poolrec.specs.declared.record.PoolRec.{PoolRec}
use Rattle.st_model.specs.declared.state.PoolState.{PoolState}
use Rattle.st_rack.specs.Device.{State, Image}
use Rattle.st_rack.specs.Calls.{Devices}
use Rattle.st_image.specs.Left.{LeftOf}
use Rattle.st_image.specs.Stands.{StandsFor}
use Rattle.st_image.specs.Calm.{ForNoOther}

-- Whatever a crash leaves now stands for one of these, and no device by itself stands for another pool.
abbrev pub Survived : ℕ → Devices → (Option PoolState → Type 0) → State → Type 0
Survived p devs Survivor s = (c : Image) → LeftOf p devs s c → (found : Option PoolState) × StandsFor p devs c found × Survivor found × ForNoOther p devs c

-- the pool with this record, or none where it says that the pool is gone
abbrev pub unless_gone : PoolRec → PoolState → Option PoolState
unless_gone rec pool = if rec.gone then None else Some pool

-- the pool before a commit, or what it is after it
abbrev pub IsEither : PoolState → Option PoolState → Option PoolState → Type 0
IsEither before after found = (found ≡ Some before) ⊎ (found ≡ after)
