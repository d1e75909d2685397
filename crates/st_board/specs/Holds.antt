-- When the parts of the engine's board stand for the state of its table.
use Rattle.std.specs.Prelude.{◌≡◌, ℕ, ◌+◌, ◌≤◌, ◌==◌, List, length, map, find, is_some, option_map, Option, Some, None, if◌then◌else◌}
use Rattle.std.specs.List.{IsDistinct}
use Rattle.st_limits.specs.declared.TheConstants.{MAX_POOLS}
use Rattle.st_units.specs.declared.rows.DevRow.{DevRow}
use Rattle.st_units.specs.Roomy.{Roomy}
use Rattle.st_model.specs.declared.state.EngineState.{EngineState}
use Rattle.st_model.specs.declared.state.PoolMode.TheVariants.{Incomplete}
use Rattle.st_model.specs.declared.state.PoolState.{PoolState}
use Rattle.st_model.specs.declared.state.TableState.{TableState}
use Rattle.st_model.specs.Look.{Text, row_of}
use Rattle.st_model.specs.Parts.{table_of}
use Rattle.st_model.specs.Valid.{IsValid}
use Rattle.st_rack.specs.Device.{Path, State}
use Rattle.st_rack.specs.Calls.{Devices, sectors_of}
use Rattle.st_table.specs.Stands.{Stands}
use Rattle.st_table.specs.Table.{TableView}
use Rattle.st_pool.specs.Halts.{Halts, HaltedView}
use Rattle.st_pool.specs.View.{now}
use Rattle.st_board.specs.Free.{AreTheFree, AreFreeFor}
use Rattle.st_board.specs.View.{BoardView}

abbrev pub halted_at : {D : Type 0} → ℕ → List (HaltedView D) → Option (HaltedView D)
halted_at q halted = find (λ h. h.serial == q) halted

abbrev pub stopped_at : ℕ → List PoolState → Option PoolState
stopped_at q stopped = find (λ (p : PoolState). p.serial == q) stopped

-- of a pool that lacks a device, the rack has each other device of its rows that the engine has, and nothing else
abbrev pub HasOthers : {D : Type 0} → (D → Devices) → List DevRow → Option PoolState → Option (HaltedView D) → Type 0
HasOthers devs rows None h = Unit {0}
HasOthers devs rows (Some p) None = Unit {0}
HasOthers devs rows (Some p) (Some h) =
    (missing : Text) → p.mode ≡ Incomplete missing → (d : Path) → sectors_of (devs h.rack) d ≡ (if is_some (row_of d p.devices) then option_map (λ (row : DevRow). row.sectors) (row_of d rows) else None)

module _ {D : Type 0} (devs : D → Devices) (moment : D → ℕ) (state_at : D → ℕ → State) where
  -- the one stands for the other, or neither is there
  abbrev pub Fits : Option PoolState → Option (HaltedView D) → Type 0
  Fits None None = Unit {0}
  Fits None (Some h) = ⊥
  Fits (Some p) None = ⊥
  Fits (Some p) (Some h) = Halts devs moment state_at p h

  -- for each serial: the pool that isn't started, on its devices
  pub record AreHalted (stopped : List PoolState) (halted : List (HaltedView D)) : Type 0 where
    pub each : (q : ℕ) → Fits (stopped_at q stopped) (halted_at q halted)
    pub once : IsDistinct (λ (a b : ℕ). a == b) (map (λ h. h.serial) halted)
    pub count : length halted ≡ length stopped

  -- The racks are those of the table's free devices and of its pools that aren't started, and they keep them.
  pub record KeepsTable (t : TableState) (free : D) (halted : List (HaltedView D)) : Type 0 where
    pub the_free : AreTheFree t (devs free)
    pub settled : AreFreeFor t (devs free) (now moment state_at free)
    pub are_halted : AreHalted t.stopped halted

  abbrev pub IsBoardKept : BoardView D → Type 0
  IsBoardKept b = KeepsTable b.state b.free b.halted

  -- The table tells of the state, which is that of a valid one, and the racks keep it.
  pub record Holds (faults spare : D → ℕ) (table : TableView) (free : D) (halted : Roomy (HaltedView D)) (past : ℕ) (t : TableState) : Type 0 where
    pub whole : EngineState
    pub valid : IsValid whole
    pub is : table_of whole ≡ t
    pub tells : Stands table t
    pub keeps : KeepsTable t free halted.items
    pub lacking : (q : ℕ) → HasOthers devs t.devices (stopped_at q t.stopped) (halted_at q halted.items)
    -- the rack of the free devices has counted each fault of a pool that ended
    pub counted : past ≤ faults free
    -- all devices have a place on it
    pub places : length t.devices ≤ spare free + length (devs free)
    -- each pool may be stopped without memory
    pub room : MAX_POOLS ≤ length halted.items + halted.room
