-- What a pool's log says at a generation.
use Rattle.std.specs.Prelude.{◌≡◌, ℕ, ◌<◌, ◌≤◌, Option, Some, None}
use Rattle.st_rack.specs.Story.{Content}
use Rattle.st_deltalog.specs.declared.area.FlexArea.{FlexArea}
use Rattle.st_deltalog.specs.declared.area.Tail.{Tail}
use Rattle.st_deltalog.specs.Log.{Log, log_at}
use Rattle.st_deltalog.specs.Bearing.{IsTail}
use Rattle.st_flexlog.specs.declared.state.FlexState.{FlexState}
use Rattle.st_flexlog.specs.Said.{Says}

-- In the two slots of a device with this content stands a log of serial p and generation g, and says this state. The one place that
-- knows how mappings are written.
pub record FlexAt (flex : FlexArea) (p g : ℕ) (f : Content) (st : FlexState) : Type 0 where
  pub log : Log
  pub is : log_at flex p g f ≡ Some log
  pub says : Says log.start log.body log.deltas st

-- The state is said there, and the tail is the place behind the log that says it, in its slot.
pub record FlexFound (flex : FlexArea) (p g : ℕ) (f : Content) (found : FlexState × Tail) : Type 0 where
  pub at : FlexAt flex p g f found.0
  pub tail : IsTail found.1.slot found.1.next at.log
  pub of_two : found.1.slot < 2
  pub within : found.1.next ≤ flex.area.slot

-- what is found, or that nothing is said there
abbrev pub IsFlexAt : FlexArea → ℕ → ℕ → Content → Option (FlexState × Tail) → Type 0
IsFlexAt flex p g f (Some found) = FlexFound flex p g f found
IsFlexAt flex p g f None = (st : FlexState) → FlexAt flex p g f st → ⊥
