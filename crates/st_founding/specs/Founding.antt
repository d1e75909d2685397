-- A new pool on free devices of the engine.
use Rattle.std.specs.Prelude.{◌≡◌, ℕ, ◌+◌, ◌≤◌, Bool, true, List, [], ◌∷◌, ◌++◌, None}
use Rattle.st_units.specs.Causes.{Rose}
use Rattle.st_model.specs.declared.call.Call.TheVariants.{CreatePool}
use Rattle.st_model.specs.declared.entry.Env.{Env}
use Rattle.st_model.specs.declared.reply.Reply.{Reply}
use Rattle.st_model.specs.declared.state.EngineState.{EngineState}
use Rattle.st_model.specs.declared.state.TableState.{TableState}
use Rattle.st_model.specs.Look.{Text, distinct, is_started}
use Rattle.st_model.specs.Parts.{table_of}
use Rattle.st_model.specs.Step.{IsLicensed, step}
use Rattle.st_model.specs.Valid.{IsValid}
use Rattle.st_model.specs.steps.CreatePool.{broken_pool, create_answer, with_pool}
use Rattle.st_rack.specs.Device.{State}
use Rattle.st_rack.specs.Calls.{Devices}
use Rattle.st_rack.specs.Moments.{Always}
use Rattle.st_rack.specs.Parts.{Splits}
use Rattle.st_image.specs.Kept.{Kept}
use Rattle.st_pool.specs.Answered.{is_device_fault}
use Rattle.st_pool.specs.View.{IsKeptOn, PoolView}
use Rattle.st_board.specs.Ran.{more}
use Rattle.st_board.specs.View.{BoardView, last, slack_of}

-- the table with a new pool
abbrev pub new_table : Text → List Text → TableState → TableState
new_table name paths t = record t { names = t.names ++ record { name = name; serial = t.next; new = None; devices = paths } ∷ []; next = t.next + 1 }

-- In the state, whose table this is, nothing is against a CreatePool on these devices.
pub record MayFound (s : EngineState) (t : TableState) (name : Text) (paths once : List Text) : Type 0 where
  pub valid : IsValid s
  pub table : table_of s ≡ t
  pub unanswered : create_answer s name paths ≡ None
  pub each_once : once ≡ distinct paths

-- Nothing of the board was changed but that the free devices may be another rack of the same.
pub record IsLeft {D : Type 0} (faults : D → ℕ) (old b : BoardView D) : Type 0 where
  pub same : b ≡ record old { free = b.free }
  pub counts : faults old.free ≤ last → faults b.free ≡ faults old.free
  pub slack : slack_of faults old ≤ slack_of faults b

-- The pool is one of the engine's: so the model answers, and the board stands for the state after the call.
pub record HasFounded {D : Type 0} (devs : D → Devices) (moment : D → ℕ) (state_at : D → ℕ → State) (faults : D → ℕ)
    (s : EngineState) (name : Text) (paths once : List Text) (env : Env) (reply : Reply) (old : BoardView D) (spare : Bool) (pool : PoolView D) (b : BoardView D) : Type 0 where
  pub licensed : IsLicensed s (CreatePool name paths) env
  pub answers : step s (CreatePool name paths) env ≡ (reply, with_pool s pool.pool)
  pub started : is_started pool.pool.mode ≡ true
  pub stands : b.state ≡ table_of (with_pool s pool.pool)
  pub kept : IsKeptOn devs moment state_at pool
  pub counts : pool.faults ≡ more (is_device_fault env)
  pub shown : pool.spare ≡ true
  pub same : b ≡ record old { state = b.state; spare = spare; free = b.free }
  pub free_counts : faults b.free ≡ faults old.free
  -- its devices were split off the free ones, as a rack without a fault so far
  pub part : D
  pub parted : Splits devs moment state_at once old.free b.free part
  pub fresh : faults part ≡ 0
  -- a fault is answered only where the count of its rack rose
  pub cause : is_device_fault env ≡ true → Rose (faults part) (faults pool.rack)
  -- at each moment of the call its devices keep a pool with this call in flight
  pub crash : Always moment state_at (Kept (broken_pool s.next name once) (devs pool.rack)) part pool.rack
