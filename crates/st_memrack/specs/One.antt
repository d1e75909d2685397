-- One device of a list makes a step, and the others stay as they are.
use Rattle.std.specs.Prelude.{◌≡◌, ℕ, List, get_or, slice_set}
use Rattle.st_rack.specs.Device.{Path}
use Rattle.st_shelf.specs.Shelf.{IsFirst}

pub record OneStep {D : Type 0} (path : D → Path) (step : D → D → Type 0) (dev : Path) (old new : List D) : Type 0 where
  pub place : ℕ
  pub before : D
  pub after : D
  pub first : IsFirst path old dev place
  pub was : before ≡ get_or old place before
  pub is : new ≡ slice_set old place after
  pub named : path after ≡ dev
  pub here : step before after
