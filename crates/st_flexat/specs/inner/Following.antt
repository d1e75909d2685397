-- A log that is followed from its checkpoint on.
use Rattle.std.specs.Prelude.{◌≡◌, ◌≢◌, ℕ, ◌<◌, ◌≤◌, Option, Some, None}
use Rattle.st_rack.specs.Story.{Content}
use Rattle.st_rack.specs.Device.{Path, State}
use Rattle.st_rack.specs.Calls.{Devices}
use Rattle.st_units.specs.Causes.{Rose}
use Rattle.st_deltalog.specs.declared.area.FlexArea.{FlexArea}
use Rattle.st_deltalog.specs.declared.area.Tail.{Tail}
use Rattle.st_deltalog.specs.declared.find.Begun.{Begun}
use Rattle.st_deltalog.specs.Log.{Log, followed}
use Rattle.st_deltalog.specs.Finding.{log_of}
use Rattle.st_deltalog.specs.Bearing.{IsTail}
use Rattle.st_flexlog.specs.declared.state.FlexState.{FlexState}
use Rattle.st_flexlog.specs.Said.{Says}

-- The log is there and says this state, and the tail is the place behind it.
pub record LogFound (flex : FlexArea) (there : Option Log) (found : FlexState × Tail) : Type 0 where
  pub log : Log
  pub is : there ≡ Some log
  pub says : Says log.start log.body log.deltas found.0
  pub tail : IsTail found.1.slot found.1.next log
  pub of_two : found.1.slot < 2
  pub within : found.1.next ≤ flex.area.slot

abbrev pub IsOfLog : FlexArea → Option Log → Option (FlexState × Tail) → Type 0
IsOfLog flex there (Some found) = LogFound flex there found
IsOfLog flex there None = (log : Log) (st : FlexState) → there ≡ Some log → Says log.start log.body log.deltas st → ⊥

abbrev pub IsFollowed : FlexArea → Begun → ℕ → Content → Option (FlexState × Tail) → Type 0
IsFollowed flex begun generation f found = IsOfLog flex (followed flex generation f (Some (log_of begun))) found

-- A device of a rack was read or not, and nothing else: where the count of its reads rose before, it rose.
pub record IsReadOn {D : Type 0} (devs : D → Devices) (moment : D → ℕ) (state_at : D → ℕ → State) (spare : D → ℕ) (reads : D → Path → ℕ) (dev : Path) (old new : D) : Type 0 where
  pub devices : devs new ≡ devs old
  pub clock : moment new ≡ moment old
  pub states : state_at new ≡ state_at old
  pub spares : spare new ≡ spare old
  pub counted : (n : ℕ) → Rose n (reads old dev) → Rose n (reads new dev)
  pub others : (p : Path) → p ≢ dev → reads new p ≡ reads old p
