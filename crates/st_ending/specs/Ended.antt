-- What a DestroyPool did to devices.
use Rattle.std.specs.Prelude.{◌≡◌, ℕ, Bool, true, false, List, [], ◌∷◌, ◌++◌, remove, Some, slice_get}
use Rattle.st_units.specs.Causes.{Rose}
use Rattle.st_model.specs.declared.call.Call.TheVariants.{DestroyPool}
use Rattle.st_model.specs.Look.{Text, is_up}
use Rattle.st_rack.specs.Device.{State}
use Rattle.st_rack.specs.Calls.{Devices}
use Rattle.st_rack.specs.Moments.{Always}
use Rattle.st_rack.specs.Parts.{Joins}
use Rattle.st_image.specs.Kept.{Kept}
use Rattle.st_image.specs.Survivors.{in_flight}
use Rattle.st_pool.specs.View.{PoolView}
use Rattle.st_board.specs.View.{BoardView}

module _ {D : Type 0} (devs : D → Devices) (moment : D → ℕ) (state_at : D → ℕ → State) (faults : D → ℕ) where
  -- The pool's rack has become this one.
  pub record EndsOn (pool : PoolView D) (fault : Bool) (rack : D) : Type 0 where
    -- a fault is answered only where its count rose
    pub cause : fault ≡ true → Rose (faults pool.rack) (faults rack)
    -- at each moment of the call the devices of a pool that is up keep it with this call in flight
    pub crash : is_up pool.pool.mode ≡ true → Always moment state_at (Kept (in_flight pool.pool (DestroyPool pool.pool.name)) (devs rack)) pool.rack rack
    -- those of one that is down weren't called
    pub idle : is_up pool.pool.mode ≡ false → (moment rack ≡ moment pool.rack) × (state_at rack ≡ state_at pool.rack)

  pub data DidEnd (name : Text) (fault : Bool) (old : List (PoolView D)) (was : BoardView D) (cells : List (PoolView D)) (b : BoardView D) : Type 0 where
    Untouched : fault ≡ false → cells ≡ old → b ≡ was → DidEnd name fault old was cells b
    -- the pool at a place is the last of the started ones now
    Stays : (i : ℕ) (pool new : PoolView D) → slice_get old i ≡ Some pool → pool.pool.name ≡ name → cells ≡ remove old i ++ new ∷ [] → b ≡ was
        → EndsOn pool fault new.rack → DidEnd name fault old was cells b
    -- it is gone, and its rack has joined the free one; the pools that aren't started stay
    Gone : (i : ℕ) (pool : PoolView D) (rack : D) → slice_get old i ≡ Some pool → pool.pool.name ≡ name → cells ≡ remove old i → Joins devs moment state_at was.free rack b.free
        → b.halted ≡ was.halted → EndsOn pool fault rack → DidEnd name fault old was cells b
