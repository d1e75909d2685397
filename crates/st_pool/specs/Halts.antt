-- A pool that isn't started, on its devices.
use Rattle.std.specs.Prelude.{◌≡◌, ℕ, false, List, [], Option, Some, None}
use Rattle.st_model.specs.declared.call.Call.{Call}
use Rattle.st_model.specs.declared.state.PoolState.{PoolState}
use Rattle.st_model.specs.Checks.{halted}
use Rattle.st_model.specs.Look.{flight_of, is_started}
use Rattle.st_rack.specs.Device.{Path, State, Image, held}
use Rattle.st_rack.specs.Calls.{Devices}
use Rattle.st_deltalog.specs.Bearing.{IsSettled}
use Rattle.st_commit.specs.Ready.{AreDistinct, IsOf}
use Rattle.st_image.specs.Bears.{paths}
use Rattle.st_image.specs.Kept.{Kept, in_use}
use Rattle.st_image.specs.Rack.{IsSerial}
use Rattle.st_image.specs.Stands.{StandsFor}
use Rattle.st_pool.specs.declared.flight.Flight.{Flight}
use Rattle.st_pool.specs.Flights.{Flies}
use Rattle.st_pool.specs.View.{IsOwn, now, pool_with}

-- the serial of the pool, its devices in use, their rack, the pool's books where they are known, with the call in flight, and how many
-- operations of the pool met a fault
pub record HaltedView (D : Type 0) : Type 0 where
  pub serial : ℕ
  pub devs : List Path
  pub rack : D
  pub flight : Option Flight
  pub faults : ℕ

-- No call is in flight. Nothing is pending on the devices, and what they hold stands for the pool.
pub record IsQuiet (pool : PoolState) (devs : Devices) (list : List Path) (s : State) : Type 0 where
  pub flight : flight_of pool.mode ≡ None
  pub settled : (d : Path) → IsOf list d → IsSettled (s d)
  pub stands : StandsFor pool.serial (in_use pool devs) (held s) (Some pool)

-- The books are known: the pool is that of them, with the call in flight if there is one. Each device stands once in the list.
pub record IsFlying (pool : PoolState) (list : List Path) (f : Flight) : Type 0 where
  pub serial : IsSerial f.books.rec.serial
  pub once : AreDistinct list
  pub filesystems : f.books.flex.filesystems ≡ []
  pub mappings : f.books.flex.mappings ≡ []
  pub call : Flies f.books list f.call
  pub was : (m : Image) → pool ≡ halted (pool_with f.books f.call m)

-- the call in flight, where the books are known
abbrev pub flown : Option Flight → Option Call
flown None = None
flown (Some f) = f.call

abbrev pub IsAs : PoolState → Devices → List Path → State → Option Flight → Type 0
IsAs pool devs list s None = IsQuiet pool devs list s
IsAs pool devs list s (Some f) = IsFlying pool list f

-- It stands for this pool, and its devices keep the pool's state.
pub record Halts {D : Type 0} (devs : D → Devices) (moment : D → ℕ) (state_at : D → ℕ → State) (pool : PoolState) (h : HaltedView D) : Type 0 where
  pub idle : is_started pool.mode ≡ false
  pub serial : h.serial ≡ pool.serial
  pub on : paths (in_use pool (devs h.rack)) ≡ h.devs
  pub own : IsOwn pool (devs h.rack)
  pub is_as : IsAs pool (devs h.rack) h.devs (now moment state_at h.rack) h.flight
  pub kept : Kept pool (devs h.rack) (now moment state_at h.rack)
