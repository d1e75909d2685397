-- How the engine begins and ends in a run.
use Rattle.std.specs.Prelude.{ℕ, ◌≡◌, Bool, true, List, [], Option}
use Rattle.std.specs.Io.KnownBytes.{Appends}
use Rattle.st_units.specs.Causes.{Rose}
use Rattle.st_wants.specs.Lock.{start}
use Rattle.st_wants.specs.Rules.{lock_run}
use Rattle.st_model.specs.declared.state.EngineState.{EngineState}
use Rattle.st_model.specs.Parts.{started, table_of}
use Rattle.st_model.specs.Valid.{IsValid}
use Rattle.st_history.specs.declared.log.Event.{Event}
use Rattle.st_history.specs.History.{History, moves_of, replay}
use Rattle.st_lines.specs.Printing.{Started}
use Rattle.st_rack.specs.Calls.{Devices}
use Rattle.st_rack.specs.Device.{State, held}
use Rattle.st_image.specs.Rack.{IsForeign}
use Rattle.st_pool.specs.View.{now}
use Rattle.st_board.specs.View.{BoardView, faults_of}
use Rattle.st_begin.specs.Begun.{IsBack}
use Rattle.st_closing.specs.Kept.{KeptRack}
use Rattle.st_laning.specs.LaneOrder.{LaneOrder}
use Rattle.st_status.specs.Statuses.{IsAfterInput}
use Rattle.st_status.specs.declared.status.Status.{Status}
use Rattle.st_status.specs.declared.status.Status.TheVariants.{Done, Usage, ReadFault, WriteFault, OutOfMemory, InputLimit, OpenFault, Foreign}
use Rattle.st_session.specs.Headline.{Counts, IsRunOf}
use Rattle.st_session.specs.Out.{out}

-- The board of this state, in which no pool is started; no fault is counted yet.
pub record IsFresh {D : Type 0} (s : EngineState) (b : BoardView D) : Type 0 where
  pub valid : IsValid s
  pub idle : started s ≡ []
  pub stands : b.state ≡ table_of s
  pub shown : b.spare ≡ true
  pub none : faults_of b ≡ 0

-- the engine ended before it was ready
abbrev pub IsOfBeginning : Status → Type 0
IsOfBeginning Done = ⊥
IsOfBeginning WriteFault = ⊥
IsOfBeginning OutOfMemory = Unit {0}
IsOfBeginning Usage = ⊥
IsOfBeginning ReadFault = ⊥
IsOfBeginning (InputLimit limit) = ⊥
IsOfBeginning OpenFault = Unit {0}
IsOfBeginning (Foreign serial) = Unit {0}

module _ {D : Type 0} (devs : D → Devices) (moment : D → ℕ) (state_at : D → ℕ → State) where
  -- Lines ran from this state on, and all devices came into one rack.
  pub record HasRun (lanes : ℕ) (lines : List (List ℕ)) (s0 : EngineState) (log : List Event) (r : D) : Type 0 where
    pub history : History s0 log
    pub order : LaneOrder lanes lines log
    pub quiet : (lock_run start (moves_of log)).rows ≡ []
    pub kept : KeptRack (replay s0 log) (devs r) (now moment state_at r)

  module _ (faults : D → ℕ) where
    -- The engine didn't begin on a rack.
    pub record DidNotBegin (old : D) (status : Status) (log : List Event) (r : D) : Type 0 where
      pub none : log ≡ []
      pub back : IsBack devs moment state_at faults old r
      pub ended : IsOfBeginning status
      pub open_fault : status ≡ OpenFault → Rose (faults old) (faults r)
      pub foreign : (n : ℕ) → status ≡ Foreign n → IsForeign (devs old) (held (now moment state_at old)) n

    -- Lines ran on a rack; then the output was written, or as much of it as the status tells.
    pub record HasOutput (old : D) (lanes : ℕ) (trace : Bool) (lines : List (List ℕ)) (held after : Option (List ℕ)) (status : Status) (log : List Event) (r : D) : Type 0 where
      pub run : IsRunOf devs moment state_at faults old lanes lines log r
      pub counts : Counts devs moment state_at faults old log r
      pub ended : IsAfterInput status
      pub done : status ≡ Done → Appends held after (out lanes trace lines log)
      pub cut : (status ≡ Done → ⊥) → Started held after (out lanes trace lines log)
