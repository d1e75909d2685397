-- What a run of lines does: the clauses that the program's own call carries.
use Rattle.std.specs.Prelude.{ℕ, ◌≡◌, ◌+◌, ◌<◌, ◌≤◌, ◌⊎◌, List, [], Bool, Option}
use Rattle.std.specs.Io.KnownBytes.{Appends}
use Rattle.st_wants.specs.Lock.{start}
use Rattle.st_wants.specs.Rules.{lock_run}
use Rattle.st_model.specs.declared.state.EngineState.{EngineState}
use Rattle.st_model.specs.Parts.{started}
use Rattle.st_model.specs.Valid.{IsValid}
use Rattle.st_history.specs.declared.log.Event.{Event}
use Rattle.st_history.specs.Failures.{failures}
use Rattle.st_history.specs.History.{History, moves_of, replay}
use Rattle.st_lines.specs.Lines.{AreLinesOf}
use Rattle.st_lines.specs.Printing.{Started}
use Rattle.st_rack.specs.Calls.{Devices}
use Rattle.st_rack.specs.Device.{State, held}
use Rattle.st_image.specs.Rack.{RackStands}
use Rattle.st_pool.specs.View.{now}
use Rattle.st_board.specs.View.{last}
use Rattle.st_begin.specs.Begun.{IsBack}
use Rattle.st_closing.specs.Kept.{KeptRack}
use Rattle.st_laning.specs.LaneOrder.{LaneOrder}
use Rattle.st_session.specs.Out.{out}

-- of a run that was handed this rack
module _ {D : Type 0} (devs : D → Devices) (moment : D → ℕ) (state_at : D → ℕ → State) (faults : D → ℕ) (old : D) where
  -- The run began in this state: the devices stood for it, as they read when the rack was handed in. It is valid, and no pool is started
  -- in it.
  pub record Began (s0 : EngineState) : Type 0 where
    pub stood : RackStands (devs old) (held (now moment state_at old)) s0
    pub valid : IsValid s0
    pub idle : started s0 ≡ []

  -- Each failure that was answered is one of a device: as long as the count of the rack that comes back goes, it has risen by at least as
  -- many as the log has entries with code 27.
  abbrev pub Counts : List Event → D → Type 0
  Counts log r = faults r < last → faults old + failures log ≤ faults r

  -- The log is one history of the engine from the state in which the run began: the lock's rule holds in it, and each entry has the reply
  -- of the sequential engine at its place. Each line's call stands in it at most once, in its lane's order, and each ticket was released.
  -- All devices of the engine come back in one rack, and keep each pool as it is after the log.
  pub record IsRunOf (lanes : ℕ) (lines : List (List ℕ)) (log : List Event) (r : D) : Type 0 where
    pub opening : EngineState
    pub began : Began opening
    pub history : History opening log
    pub order : LaneOrder lanes lines log
    pub quiet : (lock_run start (moves_of log)).rows ≡ []
    pub kept : KeptRack (replay opening log) (devs r) (now moment state_at r)

  -- a run that is done: the sink took just the output of the lines and the log
  pub record IsDone (lanes : ℕ) (trace : Bool) (left held after : Option (List ℕ)) (log : List Event) (r : D) : Type 0 where
    pub lines : List (List ℕ)
    pub read : AreLinesOf left lines
    pub run : IsRunOf lanes lines log r
    pub written : Appends held after (out lanes trace lines log)

  -- a run whose output was cut off: the sink took a prefix of the output
  pub record IsCutOff (lanes : ℕ) (trace : Bool) (left held after : Option (List ℕ)) (log : List Event) (r : D) : Type 0 where
    pub lines : List (List ℕ)
    pub read : AreLinesOf left lines
    pub run : IsRunOf lanes lines log r
    pub prefix : Started held after (out lanes trace lines log)

  -- The engine wasn't ready for a line: no line ran and nothing was written, and the rack is what was handed in, or what is left of it by
  -- an engine that gave up while it began.
  pub record IsUnbegun (held after : Option (List ℕ)) (log : List Event) (r : D) : Type 0 where
    pub none : log ≡ []
    pub unwritten : after ≡ held
    pub rack : (r ≡ old) ⊎ IsBack devs moment state_at faults old r

  -- a run that ended for want of memory: before the engine was ready, or later
  abbrev pub HasStopped : ℕ → Bool → Option (List ℕ) → Option (List ℕ) → Option (List ℕ) → List Event → D → Type 0
  HasStopped lanes trace left held after log r = IsUnbegun held after log r ⊎ IsCutOff lanes trace left held after log r
