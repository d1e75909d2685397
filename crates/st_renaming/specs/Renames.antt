-- What a RenamePool did to racks: nothing, or the started pool of the name did it alone on its own.
use Rattle.std.specs.Prelude.{◌≡◌, ℕ, List, [], ◌∷◌, ◌++◌, remove, Some, slice_get}
use Rattle.st_model.specs.declared.call.Call.TheVariants.{RenamePool}
use Rattle.st_model.specs.Look.{Text}
use Rattle.st_rack.specs.Device.{State}
use Rattle.st_rack.specs.Calls.{Devices}
use Rattle.st_pool.specs.declared.reply.PoolReply.{PoolReply}
use Rattle.st_pool.specs.Runs.{Runs, never_low}
use Rattle.st_pool.specs.View.{PoolView}
use Rattle.st_board.specs.View.{BoardView}

pub data DidRename {D : Type 0} (devs : D → Devices) (moment : D → ℕ) (state_at : D → ℕ → State) (faults : D → ℕ)
    (name new : Text) (answer : PoolReply) (old : List (PoolView D)) (was : BoardView D) (cells : List (PoolView D)) (b : BoardView D) : Type 0 where
  Untouched : cells ≡ old → b ≡ was → DidRename devs moment state_at faults name new answer old was cells b
  -- a fault is answered only where one of its devices failed, and at each moment they keep the pool with this call in flight
  Asked : (i : ℕ) (c q : PoolView D) → slice_get old i ≡ Some c → c.pool.name ≡ name → Runs devs moment state_at faults never_low (RenamePool name new) c answer q
      → cells ≡ remove old i ++ q ∷ [] → b.free ≡ was.free → b.halted ≡ was.halted → DidRename devs moment state_at faults name new answer old was cells b
