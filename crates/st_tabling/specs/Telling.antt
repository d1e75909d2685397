-- What was found tells the pools of a state, none of which is started.
use Rattle.std.specs.Prelude.{◌≡◌, ℕ, ◌<◌, false, List, [], ◌∷◌, ◌++◌, map, Option, Some, None}
use Rattle.std.specs.List.{AllByRecursion}
use Rattle.st_units.specs.declared.rows.DevRow.{DevRow}
use Rattle.st_model.specs.declared.state.EngineState.{EngineState}
use Rattle.st_model.specs.declared.state.PoolMode.{PoolMode}
use Rattle.st_model.specs.declared.state.PoolState.{PoolState}
use Rattle.st_model.specs.Look.{Text, flight_of, is_started}
use Rattle.st_model.specs.Parts.{table_of}
use Rattle.st_model.specs.Valid.{Apart, IsValid}
use Rattle.st_model.specs.ValidPool.{EachPair}
use Rattle.st_judge.specs.declared.rows.FoundRow.{FoundRow}
use Rattle.st_assemble.specs.Found.{row_of}
use Rattle.st_table.specs.declared.halted.HaltedInfo.{HaltedInfo}
use Rattle.st_table.specs.declared.halted.HaltedMode.{HaltedMode}
use Rattle.st_table.specs.declared.halted.HaltedMode.TheVariants as halted
use Rattle.st_table.specs.Stands.{Stands}
use Rattle.st_table.specs.Table.{TableView}

-- the pool isn't started, and no call of it is in flight
abbrev pub IsIdle : PoolMode → Type 0
IsIdle mode = (is_started mode ≡ false) × (flight_of mode ≡ None)

-- the rack has these devices, these pools are known, and this is the next serial
pub record TellsOf (e : EngineState) (rows : List DevRow) (pools : List FoundRow) (next : ℕ) : Type 0 where
  pub valid : IsValid e
  pub devices : rows ≡ e.devices
  pub known : pools ≡ map row_of e.pools
  pub next_is : next ≡ e.next
  pub idle : AllByRecursion (λ (p : PoolState). IsIdle p.mode) e.pools

abbrev pub halted_mode : Option Text → HaltedMode
halted_mode None = halted.Stopped
halted_mode (Some path) = halted.Incomplete path

-- what the table keeps of it
abbrev pub info_for : FoundRow → HaltedInfo
info_for row = record { mode = halted_mode row.missing; devs = map (λ (r : DevRow). r.path) row.devs; flight = []; new = None }

-- the state with one pool more
abbrev pub with_last : EngineState → PoolState → EngineState
with_last s q = record s { pools = s.pools ++ q ∷ [] }

-- The pool of the row may stand behind those of the state, whose table this is.
pub record MayPlace (s : EngineState) (q : PoolState) (row : FoundRow) (view : TableView) : Type 0 where
  pub all : EachPair (Apart s.devices) (s.pools ++ q ∷ [])
  pub serial : q.serial < s.next
  pub told : row ≡ row_of q
  pub idle : IsIdle q.mode
  pub stands : Stands view (table_of s)
