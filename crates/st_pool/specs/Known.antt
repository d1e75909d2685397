-- What a started pool knows of its devices between its calls.
use Rattle.std.specs.Prelude.{◌≡◌, ℕ, ◌≤◌, false, List, [], Option, Some, None, IfSome}
use Rattle.st_model.specs.declared.call.Call.{Call}
use Rattle.st_model.specs.declared.info.PoolInfo.{PoolInfo}
use Rattle.st_model.specs.declared.state.PoolState.{PoolState}
use Rattle.st_model.specs.Shown.{pool_info}
use Rattle.st_rack.specs.Device.{Path, State, held}
use Rattle.st_rack.specs.Calls.{Devices}
use Rattle.st_deltalog.specs.Bearing.{IsSettled}
use Rattle.st_commit.specs.Ready.{AreDistinct, IsOf}
use Rattle.st_image.specs.Bears.{paths}
use Rattle.st_image.specs.Kept.{in_use, Kept}
use Rattle.st_image.specs.Stands.{state_of}
use Rattle.st_image.specs.Rack.{IsSerial}
use Rattle.st_books.specs.declared.books.Books.{Books}
use Rattle.st_books.specs.Ready.{AreReady, rows_of}
use Rattle.st_pool.specs.Flights.{Flies}
use Rattle.st_pool.specs.View.{IsOwn, now, pool_with}

-- Up: the devices bear the books, nothing is pending on them, and the cells are what they were when the state was last settled.
pub record IsUp (b : Books) (s seen : State) : Type 0 where
  pub ready : AreReady b s
  pub settled : (d : Path) → IsOf (paths (rows_of b.rec)) d → IsSettled (s d)
  pub alive : b.rec.gone ≡ false
  pub same : state_of b.generation b.rec b.flex (held s) ≡ state_of b.generation b.rec b.flex (held seen)

-- Down: the devices keep the pool with its call in flight.
abbrev pub Stands : Books → Option Call → PoolState → Devices → State → State → Type 0
Stands b None pool devs s seen = IsUp b s seen
Stands b (Some call) pool devs s seen = Kept pool devs s

-- The pool is on these devices, each once, which the rack has and no others; `shown` is what an info shows of it, and an info to give shows
-- the same.
pub record IsOn (pool : PoolState) (devs : Devices) (list : List Path) (shown : PoolInfo) (spare : Option PoolInfo) : Type 0 where
  pub on : paths (in_use pool devs) ≡ list
  pub once : AreDistinct list
  pub own : IsOwn pool devs
  pub info : shown ≡ pool_info pool
  pub spare_info : IfSome spare (λ i. i ≡ pool_info pool)

module _ {D : Type 0} (devs : D → Devices) (moment : D → ℕ) (state_at : D → ℕ → State) (faults : D → ℕ) where
  -- what is true of a started pool; it has no filesystem
  pub record IsPool (b : Books) (flight : Option Call) (list : List Path) (shown : PoolInfo) (spare : Option PoolInfo) (rack seen : D) (count : ℕ) : Type 0 where
    pub serial : IsSerial b.rec.serial
    pub filesystems : b.flex.filesystems ≡ []
    pub mappings : b.flex.mappings ≡ []
    pub flies : Flies b list flight
    pub is_on : IsOn (pool_with b flight (held (now moment state_at seen))) (devs rack) list shown spare
    pub stands : Stands b flight (pool_with b flight (held (now moment state_at seen))) (devs rack) (now moment state_at rack) (now moment state_at seen)
    pub count_is : count ≤ faults rack
