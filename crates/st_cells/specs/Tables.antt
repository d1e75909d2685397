-- what a table stands for, through a change of one pool
use Rattle.std.specs.Prelude.{◌≡◌, ℕ, ◌+◌, ◌==◌, Bool, true, false, not, List, [], ◌∷◌, ◌++◌, map, filter, filter_map, bytes_eq, Option, Some, if◌then◌else◌}
use Rattle.st_model.specs.declared.state.EngineState.{EngineState}
use Rattle.st_model.specs.declared.state.KnownPool.{KnownPool}
use Rattle.st_model.specs.declared.state.PoolState.{PoolState}
use Rattle.st_model.specs.declared.state.TableState.{TableState}
use Rattle.st_model.specs.Flight.{all_but}
use Rattle.st_model.specs.Look.{Text, is_started}
use Rattle.st_model.specs.Parts.{known, pool_at, table_of}
use Rattle.st_model.specs.Valid.{IsValid}
use Rattle.st_model.specs.steps.CreatePool.{with_pool}
use Rattle.st_table.specs.Steps.{with_other}
use Rattle.st_cells.specs.Cells.{others}

-- one pool more, which is started
abbrev pub table_with : PoolState → TableState → TableState
table_with q t = record t { names = t.names ++ known q ∷ []; next = t.next + 1 }

abbrev pub known_put : Text → PoolState → KnownPool → KnownPool
known_put name q k = if bytes_eq k.name name then known q else k

-- at a known pool's place: the one that isn't started, if there is one
abbrev pub halted_here : Text → PoolState → List PoolState → KnownPool → Option PoolState
halted_here name q stopped k = if bytes_eq k.name name then Some q else pool_at k.name stopped

abbrev pub stopped_put : Bool → Text → PoolState → TableState → List PoolState
stopped_put true name q t = others name t.stopped
stopped_put false name q t = filter_map (halted_here name q t.stopped) t.names

-- another in the place of the pool of this name
abbrev pub table_put : Text → PoolState → TableState → TableState
table_put name q t = record t { names = map (known_put name q) t.names; stopped = stopped_put (is_started q.mode) name q t }

-- the pool of this serial is known no more
abbrev pub table_drop : ℕ → TableState → TableState
table_drop serial t = record t { names = filter (λ (k : KnownPool). not (k.serial == serial)) t.names; stopped = all_but serial t.stopped }

abbrev pub TableWith : Type 0
TableWith = (s : EngineState) (q : PoolState) → is_started q.mode ≡ true → table_of (with_pool s q) ≡ table_with q (table_of s)

abbrev pub TablePut : Type 0
TablePut = (s : EngineState) (name : Text) (q : PoolState) → IsValid s → table_of (with_other name q s) ≡ table_put name q (table_of s)

abbrev pub TableDrop : Type 0
TableDrop = (s : EngineState) (serial : ℕ) → table_of (record s { pools = all_but serial s.pools }) ≡ table_drop serial (table_of s)
