-- What a change of one pool asks of the board.
use Rattle.std.specs.Prelude.{◌≡◌, ℕ, Bool, true, List, Some, option_map}
use Rattle.st_units.specs.declared.rows.DevRow.{DevRow}
use Rattle.st_model.specs.declared.state.EngineState.{EngineState}
use Rattle.st_model.specs.declared.state.PoolState.{PoolState}
use Rattle.st_model.specs.declared.state.TableState.{TableState}
use Rattle.st_model.specs.Flight.{all_but}
use Rattle.st_model.specs.Look.{Text, is_started, row_of, uses}
use Rattle.st_model.specs.Parts.{pool_at, table_of}
use Rattle.st_model.specs.Valid.{IsValid}
use Rattle.st_model.specs.steps.CreatePool.{with_pool}
use Rattle.st_rack.specs.Device.{Path, State}
use Rattle.st_rack.specs.Calls.{Devices, Has, names}
use Rattle.st_table.specs.Steps.{with_other}
use Rattle.st_pool.specs.View.{now}
use Rattle.st_board.specs.Free.{IsFreeFor}

-- A pool of the state becomes another of its serial, which uses the same devices.
pub record Turns (s : EngineState) (p q : PoolState) : Type 0 where
  pub before : IsValid s
  pub here : pool_at p.name s.pools ≡ Some p
  pub after : IsValid (with_other p.name q s)
  pub serial : q.serial ≡ p.serial
  pub uses_same : (path : Text) → uses path q ≡ uses path p

-- the state without a pool
abbrev pub without : PoolState → EngineState → EngineState
without p s = record s { pools = all_but p.serial s.pools }

-- A pool of the state is known no more.
pub record Goes (s : EngineState) (p : PoolState) : Type 0 where
  pub before : IsValid s
  pub here : pool_at p.name s.pools ≡ Some p
  pub after : IsValid (without p s)

module _ {D : Type 0} (devs : D → Devices) (moment : D → ℕ) (state_at : D → ℕ → State) where
  -- On this rack are just the pool's devices, in the sizes that the engine knows, and each is a free one then.
  pub record IsFreedOn (s : EngineState) (p : PoolState) (rack : D) : Type 0 where
    pub sizes : (d : Path) (n : ℕ) → Has (devs rack) d n → option_map (λ (row : DevRow). row.sectors) (row_of d s.devices) ≡ Some n
    pub own : (d : Path) (n : ℕ) → Has (devs rack) d n → uses d p ≡ true
    pub all : (d : Path) → uses d p ≡ true → (n : ℕ) × Has (devs rack) d n
    pub each : (d : Path) (n : ℕ) → Has (devs rack) d n → IsFreeFor (table_of (without p s)) n (now moment state_at rack d)

-- A started pool of the state of the one table has become another, and the other table is that of the state then.
pub record HasTurned (t u : TableState) (up : Bool) (q : PoolState) : Type 0 where
  pub state : EngineState
  pub pool : PoolState
  pub turns : Turns state pool q
  pub was : table_of state ≡ t
  pub is : table_of (with_other pool.name q state) ≡ u
  pub started : is_started pool.mode ≡ true
  pub mode : is_started q.mode ≡ up

-- A started pool of the state of the one table is gone, and the other table is that of the state then.
pub record HasGone {D : Type 0} (devs : D → Devices) (moment : D → ℕ) (state_at : D → ℕ → State) (t u : TableState) (rack : D) : Type 0 where
  pub state : EngineState
  pub pool : PoolState
  pub goes : Goes state pool
  pub was : table_of state ≡ t
  pub is : table_of (without pool state) ≡ u
  pub started : is_started pool.mode ≡ true
  pub freed : IsFreedOn devs moment state_at state pool rack

-- The state of the one table got a new pool on just these devices, which is started, and the other table is that of the state then.
pub record HasAdded (t u : TableState) (list : List Path) (q : PoolState) : Type 0 where
  pub state : EngineState
  pub valid : IsValid state
  pub after : IsValid (with_pool state q)
  pub was : table_of state ≡ t
  pub is : table_of (with_pool state q) ≡ u
  pub serial : q.serial ≡ state.next
  pub uses_these : (path : Text) → uses path q ≡ names list path
  pub started : is_started q.mode ≡ true
