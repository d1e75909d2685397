-- What a StopPool did to racks: nothing. The one of a pool that it stopped is the board's then.
use Rattle.std.specs.Prelude.{◌≡◌, ℕ, List, [], ◌∷◌, ◌++◌, remove, Some, slice_get}
use Rattle.st_model.specs.Look.{Text}
use Rattle.st_pool.specs.Halts.{HaltedView}
use Rattle.st_pool.specs.View.{PoolView}
use Rattle.st_board.specs.View.{BoardView}

pub data DidStop {D : Type 0} (name : Text) (old : List (PoolView D)) (was : BoardView D) (cells : List (PoolView D)) (b : BoardView D) : Type 0 where
  Untouched : cells ≡ old → b ≡ was → DidStop name old was cells b
  -- the pool at a place went over to the board, on the rack that it had
  Stopped : (i : ℕ) (pool : PoolView D) (h : HaltedView D) → slice_get old i ≡ Some pool → pool.pool.name ≡ name → cells ≡ remove old i
      → h.rack ≡ pool.rack → b.halted ≡ was.halted ++ h ∷ [] → b.free ≡ was.free → DidStop name old was cells b
