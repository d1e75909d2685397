-- what a change makes of a table that stands for the model's, beside the state that a step of the model leaves
use Rattle.std.specs.Prelude.{◌≡◌, ℕ, ◌<◌, List, [], ◌∷◌, ◌++◌, map, Some, None, option_map, true, is_some, if◌then◌else◌}
use Rattle.st_units.specs.declared.rows.DevRow.{DevRow}
use Rattle.st_model.specs.declared.call.Call.{Call}
use Rattle.st_model.specs.declared.call.Call.TheVariants.{RenamePool}
use Rattle.st_model.specs.declared.state.EngineState.{EngineState}
use Rattle.st_model.specs.declared.state.KnownPool.{KnownPool}
use Rattle.st_model.specs.declared.state.PoolMode.TheVariants.{Up}
use Rattle.st_model.specs.declared.state.PoolState.{PoolState}
use Rattle.st_model.specs.Checks.{down, halted}
use Rattle.st_model.specs.Flight.{all_but}
use Rattle.st_model.specs.Found.{with_own_serial}
use Rattle.st_model.specs.Lifted as lifted
use Rattle.st_model.specs.Look.{Text, is_called, row_of, devices_taken, name_given}
use Rattle.st_model.specs.OnTable.{user_of}
use Rattle.st_model.specs.Parts.{known, pool_at, table_of, shown_table}
use Rattle.st_model.specs.Valid.{IsValid, Apart}
use Rattle.st_model.specs.ValidPool.{EachPair}
use Rattle.st_model.specs.steps.AddDevices as adding
use Rattle.st_model.specs.steps.CreatePool as creating
use Rattle.st_model.specs.steps.RenamePool as renaming
use Rattle.st_model.specs.steps.StartPool.{with_serial}
use Rattle.st_table.specs.declared.halted.HaltedInfo.{HaltedInfo}
use Rattle.st_table.specs.Stands.{Stands, info_in}
use Rattle.st_table.specs.Table.{TablePool, TableView, pool_named, named, user_name, shown, without, with_pool, with_instead, changed, next_above, new_pool, renamed, holding, with_devices, halted_as, woken}

abbrev pub StandsFor : TableView → EngineState → Type 0
StandsFor view s = Stands view (table_of s)

-- what the table keeps of a pool of the model
abbrev pub kept : PoolState → TablePool
kept p = record { known = known p; halted = info_in p p.mode }

-- the state with this pool in place of the one of that name
abbrev pub with_other : Text → PoolState → EngineState → EngineState
with_other name q s = record s { pools = map (λ (p : PoolState). if is_called name p then q else p) s.pools }

-- ---- what is told

-- of each name the table keeps what the model has
abbrev pub PoolsTold : Type 0
PoolsTold = (view : TableView) (s : EngineState) (name : Text) → IsValid s → StandsFor view s → pool_named name view.pools ≡ option_map kept (pool_at name s.pools)

-- a serial is that of the pool that has it in the model
abbrev pub SerialsTold : Type 0
SerialsTold = (view : TableView) (s : EngineState) (serial : ℕ) → IsValid s → StandsFor view s → named serial view.pools ≡ option_map (λ (p : PoolState). p.name) (with_own_serial serial s)

-- a device of the rack is used by the pool that uses it in the model
abbrev pub UsersTold : Type 0
UsersTold = (view : TableView) (s : EngineState) (path : Text) → IsValid s → StandsFor view s → is_some (row_of path s.devices) ≡ true
    → user_name path view.pools ≡ option_map (λ (pool : KnownPool). pool.name) (user_of path (table_of s).names)

-- an info shows what the model's report shows of the table
abbrev pub InfosTold : Type 0
InfosTold = (view : TableView) (s : EngineState) → IsValid s → StandsFor view s → shown view.pools view.devices view.next ≡ shown_table (table_of s)

-- ---- what a change makes

-- a new pool, which takes the next serial
abbrev pub AddedAlike : Type 0
AddedAlike = (view : TableView) (s : EngineState) (q : PoolState) → IsValid s → IsValid (creating.with_pool s q) → q.serial ≡ s.next → StandsFor view s
    → StandsFor (record (changed view (with_pool (kept q) view.pools)) { next = next_above q.serial view.next }) (creating.with_pool s q)

-- a pool that is known no more
abbrev pub DroppedAlike : Type 0
DroppedAlike = (view : TableView) (s : EngineState) (name : Text) (p : PoolState) → IsValid s → pool_at name s.pools ≡ Some p → StandsFor view s
    → StandsFor (changed view (without name view.pools)) (record s { pools = all_but p.serial s.pools })

-- a pool that is renamed, holds a name, halts or wakes
abbrev pub PutAlike : Type 0
PutAlike = (view : TableView) (s : EngineState) (name : Text) (p q : PoolState) → IsValid s → IsValid (with_other name q s) → pool_at name s.pools ≡ Some p → StandsFor view s
    → StandsFor (changed view (with_instead name (kept q) view.pools)) (with_other name q s)

-- a pool of which the table keeps the same as before
abbrev pub SameAlike : Type 0
SameAlike = (view : TableView) (s : EngineState) (name : Text) (p q : PoolState) → IsValid s → IsValid (with_other name q s) → pool_at name s.pools ≡ Some p → kept q ≡ kept p → StandsFor view s → StandsFor view (with_other name q s)

-- A pool that was found and isn't started, behind those of lower serials: it is added, on whatever devices, and then halts. The serials
-- that were given stay given.
abbrev pub PlacedAlike : Type 0
PlacedAlike = (view : TableView) (s : EngineState) (q : PoolState) (info : HaltedInfo) (devs : List Text) → EachPair (Apart s.devices) (s.pools ++ q ∷ []) → q.serial < s.next → info_in q q.mode ≡ Some info → StandsFor view s
    → StandsFor (record (changed view (with_instead q.name (halted_as info (new_pool q.name q.serial devs)) (with_pool (new_pool q.name q.serial devs) view.pools))) { next = next_above q.serial view.next }) (record s { pools = s.pools ++ q ∷ [] })

-- ---- what is put in, as the changes and the steps make it

-- Of a pool p that is up, or of any q that comes after it, the change of the table keeps what the model's step leaves.
pub record KeptAlike : Type 0 where
  pub added : (serial : ℕ) (name : Text) (rows : List DevRow) → kept (creating.new_pool serial name rows) ≡ new_pool name serial (map (λ (row : DevRow). row.path) rows)
  pub broken : (serial : ℕ) (name : Text) (paths : List Text) → kept (creating.broken_pool serial name paths) ≡ new_pool name serial paths
  pub renamed : (p : PoolState) (new : Text) → p.mode ≡ Up → kept (renaming.renamed new p) ≡ renamed new (kept p)
  pub held : (p : PoolState) (new : Text) → p.mode ≡ Up → kept (down (RenamePool p.name new) p) ≡ holding new (kept p)
  -- devices that a call adds, once it is done and while it is in flight
  pub grown : (a : adding.Adding) (rack : List DevRow) (new : List Text) (p : PoolState) → p.mode ≡ Up → kept (adding.with_devices a rack new p) ≡ with_devices new (kept p)
  pub taking : (call : Call) (p : PoolState) → p.mode ≡ Up → name_given call ≡ None → kept (down call p) ≡ with_devices (devices_taken call) (kept p)
  -- of another call in flight the table keeps nothing
  pub unseen : (call : Call) (p : PoolState) → p.mode ≡ Up → devices_taken call ≡ [] → name_given call ≡ None → kept (down call p) ≡ kept p
  pub halted : (p q : PoolState) (info : HaltedInfo) → q.serial ≡ p.serial → q.name ≡ p.name → info_in q q.mode ≡ Some info → kept q ≡ halted_as info (kept p)
  pub woken : (p q : PoolState) → q.serial ≡ p.serial → q.mode ≡ Up → kept q ≡ woken q.name (map (λ (row : DevRow). row.path) q.devices) (kept p)

-- a pool that a step changes by its name or by its serial is put in place of the one of that name
pub record StepsPut : Type 0 where
  pub by_name : (s : EngineState) (name : Text) (p : PoolState) (change : PoolState → PoolState) → IsValid s → pool_at name s.pools ≡ Some p → p.mode ≡ Up
      → lifted.changed name change s ≡ with_other name (change p) s
  pub stopped : (s : EngineState) (name : Text) (p : PoolState) → IsValid s → pool_at name s.pools ≡ Some p
      → (record s { pools = map (λ (q : PoolState). if is_called name q then halted q else q) s.pools }) ≡ with_other name (halted p) s
  pub by_serial : (s : EngineState) (name : Text) (p q : PoolState) → IsValid s → pool_at name s.pools ≡ Some p → with_serial p.serial q s ≡ with_other name q s
