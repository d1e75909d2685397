-- What contracts see of a started pool, and of one that isn't started.
use Rattle.std.specs.Prelude.{◌≡◌, ℕ, ◌+◌, Bool, true, [], ◌∷◌, map, Option, Some, None}
use Rattle.st_model.specs.declared.call.Call.{Call}
use Rattle.st_model.specs.declared.state.EngineState.{EngineState}
use Rattle.st_model.specs.declared.state.PoolMode.{PoolMode}
use Rattle.st_model.specs.declared.state.PoolMode.TheVariants.{Up, Down}
use Rattle.st_model.specs.declared.state.PoolState.{PoolState}
use Rattle.st_rack.specs.Device.{Path, State, Image, held}
use Rattle.st_rack.specs.Calls.{Devices, Has, names}
use Rattle.st_image.specs.Bears.{paths}
use Rattle.st_image.specs.Kept.{Kept, in_use}
use Rattle.st_image.specs.Stands.{state_of}
use Rattle.st_image.specs.Survivors.{row_of}
use Rattle.st_books.specs.declared.books.Books.{Books}
use Rattle.st_books.specs.Ready.{AreThere}

-- a started pool: the state that it stands for, its rack, whether it has an info to give, and how many of its operations met a fault
pub record PoolView (D : Type 0) : Type 0 where
  pub pool : PoolState
  pub rack : D
  pub spare : Bool
  pub faults : ℕ

-- the mode of a started pool, by its call in flight
abbrev pub mode_with : Option Call → PoolMode
mode_with None = Up
mode_with (Some call) = Down call

-- the state of a started pool, by its books and the bytes of its cells; its cache is cold
abbrev pub pool_with : Books → Option Call → Image → PoolState
pool_with b flight m = record (state_of b.generation b.rec b.flex m) { mode = mode_with flight }

-- an engine that knows this pool alone, on these devices
abbrev pub engine_of : PoolState → Devices → EngineState
engine_of pool devs = record { pools = pool ∷ []; devices = map row_of devs; next = pool.serial + 1 }

-- A rack is the pool's own: it has each device that the pool uses, and no other.
pub record IsOwn (pool : PoolState) (devs : Devices) : Type 0 where
  pub there : AreThere devs (in_use pool devs)
  pub alone : (p : Path) (n : ℕ) → Has devs p n → names (paths (in_use pool devs)) p ≡ true

module _ {D : Type 0} (moment : D → ℕ) (state_at : D → ℕ → State) where
  abbrev pub now : D → State
  now r = state_at r (moment r)

  -- `seen` is the rack as it was when the state was last settled
  abbrev pub view_of : Books → Option Call → Bool → D → D → ℕ → PoolView D
  view_of b flight spare rack seen faults = record { pool = pool_with b flight (held (now seen)); rack = rack; spare = spare; faults = faults }

-- The devices of its rack keep the pool, and the rack is the pool's own.
pub record IsKeptOn {D : Type 0} (devs : D → Devices) (moment : D → ℕ) (state_at : D → ℕ → State) (p : PoolView D) : Type 0 where
  pub kept : Kept p.pool (devs p.rack) (now moment state_at p.rack)
  pub own : IsOwn p.pool (devs p.rack)
