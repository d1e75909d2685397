-- what a start finds of a call in flight
use Rattle.std.specs.Prelude.{ℕ, ◌==◌, nat_lt, List, length, find, Bool, true, false, ◌&&◌, Option, Some, None}
use Rattle.st_units.specs.declared.cause.Cause.TheVariants.{PoolVanished}
use Rattle.st_model.specs.declared.call.Call.{Call}
use Rattle.st_model.specs.declared.call.Call.TheVariants.{CreatePool, FsWrite}
use Rattle.st_model.specs.declared.reply.Reply.{Reply}
use Rattle.st_model.specs.declared.state.EngineState.{EngineState}
use Rattle.st_model.specs.declared.state.PoolMode.{PoolMode}
use Rattle.st_model.specs.declared.state.PoolMode.TheVariants.{Up, Down, Stopped, Unsettled, Incomplete}
use Rattle.st_model.specs.declared.state.PoolState.{PoolState}
use Rattle.st_model.specs.Answer.{refused}
use Rattle.st_model.specs.Checks.{settled}
use Rattle.st_model.specs.Flight.{all_but, state_before}
use Rattle.st_model.specs.InPlace.{in_place, size_of, with_bytes}
use Rattle.st_model.specs.Local.{Outcome, where_so}
use Rattle.st_model.specs.Plain.{plain}
use Rattle.st_model.specs.steps.StartPool.{with_serial, started_reply}

abbrev pub unsettled_in : PoolMode → Option Call
unsettled_in Up = None
unsettled_in (Down call) = None
unsettled_in Stopped = None
unsettled_in (Unsettled call) = Some call
unsettled_in (Incomplete path) = None

-- the pool is known no more
abbrev pub vanished : EngineState → PoolState → Reply × EngineState
vanished s p = (refused PoolVanished, record s { pools = all_but p.serial s.pools })

abbrev pub started_so : EngineState → PoolState → PoolState → Reply × EngineState
started_so s p q = (started_reply p, with_serial p.serial (settled q) s)

-- the state before the call; of a write, with these bytes in the sectors that it was to change in place
abbrev pub found_before : EngineState → PoolState → Call → List ℕ → Outcome
found_before s p (CreatePool name devices) bytes = where_so (length bytes == 0) (vanished s p)
found_before s p (FsWrite pool name sector payload) bytes =
    let call : Call = FsWrite pool name sector payload in
    where_so (length bytes == size_of (in_place p call)) (started_so s p (with_bytes p call bytes))
found_before s p _ bytes = where_so (length bytes == 0) (started_so s p p)

abbrev pub with_own_serial : ℕ → EngineState → Option PoolState
with_own_serial serial s = find (λ (p : PoolState). p.serial == serial) s.pools

-- the call made a commit of the pool: it was made or ended, or its commits rose
abbrev pub has_commit : Option PoolState → Option PoolState → Bool
has_commit None None = false
has_commit None (Some q) = true
has_commit (Some p) None = true
has_commit (Some p) (Some q) = nat_lt p.commits q.commits

abbrev pub taken_over : EngineState → PoolState → Option PoolState → Reply × EngineState
taken_over s p None = vanished s p
taken_over s p (Some q) = started_so s p q

abbrev pub found_after_of : EngineState → PoolState → EngineState → Outcome → Outcome
found_after_of s p before None = None
found_after_of s p before (Some answered) =
    where_so ((answered.0.code == 0) && has_commit (with_own_serial p.serial before) (with_own_serial p.serial answered.1))
    (taken_over s p (with_own_serial p.serial answered.1))

-- the state after the call, in which other pools and the next serial stay as they are
abbrev pub found_after : EngineState → PoolState → Call → Outcome
found_after s p call = found_after_of s p (state_before s p call) (plain (state_before s p call) call)
