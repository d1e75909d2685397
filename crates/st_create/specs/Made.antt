-- What a CreatePool did to devices.
use Rattle.std.specs.Prelude.{◌≡◌, ◌⊎◌, ℕ, Bool, true, List, [], ◌∷◌, ◌++◌}
use Rattle.st_units.specs.Causes.{Rose}
use Rattle.st_model.specs.declared.state.EngineState.{EngineState}
use Rattle.st_model.specs.Look.{Text, distinct}
use Rattle.st_model.specs.steps.CreatePool.{broken_pool}
use Rattle.st_rack.specs.Device.{State}
use Rattle.st_rack.specs.Calls.{Devices}
use Rattle.st_rack.specs.Moments.{Always}
use Rattle.st_rack.specs.Parts.{Splits}
use Rattle.st_image.specs.Kept.{Kept}
use Rattle.st_pool.specs.declared.reply.PoolReply.{PoolReply}
use Rattle.st_pool.specs.Answered.{is_device_fault}
use Rattle.st_pool.specs.View.{PoolView}
use Rattle.st_board.specs.View.{BoardView}

module _ {D : Type 0} (devs : D → Devices) (moment : D → ℕ) (state_at : D → ℕ → State) (faults : D → ℕ) where
  -- The pool's devices were split off the free ones, as a rack without a fault so far.
  pub record IsMadeOf (s : EngineState) (name : Text) (paths : List Text) (fault : Bool) (free left : D) (pool : PoolView D) : Type 0 where
    pub part : D
    pub parted : Splits devs moment state_at (distinct paths) free left part
    pub fresh : faults part ≡ 0
    -- a fault is answered only where its count rose
    pub cause : fault ≡ true → Rose (faults part) (faults pool.rack)
    -- at each moment of the call its devices keep a pool with this call in flight
    pub crash : Always moment state_at (Kept (broken_pool s.next name (distinct paths)) (devs pool.rack)) part pool.rack

  -- no pool was made, or one, which is the last of the started ones
  abbrev pub HasMade : EngineState → Text → List Text → PoolReply → List (PoolView D) → BoardView D → List (PoolView D) → BoardView D → Type 0
  HasMade s name paths answer old was cells b = (cells ≡ old) ⊎ ((pool : PoolView D) × (cells ≡ old ++ pool ∷ []) × IsMadeOf s name paths (is_device_fault answer.env) was.free b.free pool)
