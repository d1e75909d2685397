-- what a call answers, and what it leaves
use Rattle.std.specs.Prelude.{◌≡◌, ◌==◌, Bool, true, false, ◌&&◌, Option, Some, None, is_some, unwrap_or}
use Rattle.st_units.specs.declared.cause.Cause.TheVariants.{DeviceFault, OutOfMemory}
use Rattle.st_model.specs.declared.call.Call.{Call}
use Rattle.st_model.specs.declared.call.Call.TheVariants.{CreatePool, StartPool, FsWrite, FsRead, EngineStateReport}
use Rattle.st_model.specs.declared.entry.Env.{Env}
use Rattle.st_model.specs.declared.entry.Env.TheVariants.{Plain, NoMem, FaultRead, FaultWrite, After, Before}
use Rattle.st_model.specs.declared.reply.Given.{Given}
use Rattle.st_model.specs.declared.reply.Given.TheVariants.{Created, Changed, Added, CreatedFilesystems, DestroyedFilesystems, Done, Written, Read, Checked, Pool, Pools, Engine, Accepted}
use Rattle.st_model.specs.declared.reply.Reply.{Reply}
use Rattle.st_model.specs.declared.state.EngineState.{EngineState}
use Rattle.st_model.specs.declared.state.PoolMode.{PoolMode}
use Rattle.st_model.specs.declared.state.PoolMode.TheVariants.{Up, Down, Stopped, Unsettled, Incomplete}
use Rattle.st_model.specs.declared.state.PoolState.{PoolState}
use Rattle.st_model.specs.Answer.{refused}
use Rattle.st_model.specs.Look.{Text, distinct}
use Rattle.st_model.specs.Content.{touches_mapped}
use Rattle.st_model.specs.InPlace.{sectors_in}
use Rattle.st_model.specs.Parts.{own}
use Rattle.st_model.specs.steps.FsRead.{misses}
use Rattle.st_model.specs.steps.CreatePool.{with_pool, broken_pool}
use Rattle.st_model.specs.Checks.{down}
use Rattle.st_model.specs.Flight.{in_flight}
use Rattle.st_model.specs.Found.{unsettled_in, found_before, found_after}
use Rattle.st_model.specs.Lifted.{changed}
use Rattle.st_model.specs.Local.{Outcome, where_so}
use Rattle.st_model.specs.Plain.{plain}
use Rattle.st_model.specs.steps.StartPool.{pool_meant}

-- the result says that something was changed; a write always changes, and of a read its misses decide
abbrev pub is_change : Given → Bool
is_change (Created b made) = b
is_change (Changed b identity) = b
is_change (Added b devices) = b
is_change (CreatedFilesystems b made) = b
is_change (DestroyedFilesystems b ended) = b
is_change (Done b) = b
is_change (Written sectors) = true
is_change (Read bytes) = false
is_change (Checked b added grown) = b
is_change (Pool info) = false
is_change (Pools infos) = false
is_change (Engine table infos) = false
is_change Accepted = false

abbrev pub changes : Option Given → Bool
changes None = false
changes (Some given) = is_change given

-- it was answered Ok, and changed
abbrev pub is_changed : Outcome → Bool
is_changed None = false
is_changed (Some answered) = (answered.0.code == 0) && changes answered.0.result

abbrev pub is_ok : Outcome → Bool
is_ok None = false
is_ok (Some answered) = answered.0.code == 0

-- the call reads a device before it writes one: it reads or writes sectors, and a block of them is mapped
abbrev pub touches : EngineState → Call → Bool
touches s (FsWrite pool name sector payload) = touches_mapped name sector (sectors_in payload) (own pool s)
touches s (FsRead pool name sector sectors) = touches_mapped name sector sectors (own pool s)
touches s call = false

-- the call wrote: it was answered Ok and changed; a read writes where it misses, since the cache takes the cell in
abbrev pub wrote : EngineState → Call → Bool
wrote s (FsRead pool name sector sectors) = is_ok (plain s (FsRead pool name sector sectors)) && misses name sector sectors (own pool s)
wrote s call = is_changed (plain s call)

abbrev pub fault_on : EngineState → Option (Text × Call) → Bool → Outcome
fault_on s None b = None
fault_on s (Some flight) b = where_so b (refused DeviceFault, changed flight.0 (down flight.1) s)

-- what all calls have in common, by what they met
abbrev pub usual : EngineState → Call → Env → Outcome
usual s call Plain = plain s call
usual s call NoMem = Some (refused OutOfMemory, s)
usual s call FaultRead = where_so (is_ok (plain s call) && touches s call) (refused DeviceFault, s)
usual s call FaultWrite = fault_on s (in_flight s call) (wrote s call)
usual s call After = None
usual s call (Before bytes) = None

-- a start calls devices where it reaches a pool that is Stopped or Unsettled
abbrev pub can_start : PoolMode → Bool
can_start Up = false
can_start (Down call) = false
can_start Stopped = true
can_start (Unsettled call) = true
can_start (Incomplete path) = false

abbrev pub reaches : Option PoolState → Bool
reaches None = false
reaches (Some p) = can_start p.mode

abbrev pub on_flight : PoolState → (PoolState → Call → Outcome) → Option Call → Outcome
on_flight p f None = None
on_flight p f (Some call) = f p call

abbrev pub found : (PoolState → Call → Outcome) → Option PoolState → Outcome
found f None = None
found f (Some p) = on_flight p f (unsettled_in p.mode)

-- The outcome of a call for what it met: its answer and the state after it; none where it can't meet that. Of two calls
-- more is to be said: one makes its pool, and one finds what another left.
abbrev pub outcome : EngineState → Call → Env → Outcome
outcome s (CreatePool name devices) FaultWrite =
    where_so (wrote s (CreatePool name devices)) (refused DeviceFault, with_pool s (broken_pool s.next name (distinct devices)))
outcome s (StartPool id) FaultRead = where_so (reaches (pool_meant id s)) (refused DeviceFault, s)
outcome s (StartPool id) FaultWrite = where_so (reaches (pool_meant id s)) (refused DeviceFault, s)
outcome s (StartPool id) After = found (found_after s) (pool_meant id s)
outcome s (StartPool id) (Before bytes) = found (λ p flight. found_before s p flight bytes) (pool_meant id s)
outcome s call env = usual s call env

-- the calls that the engine runs
abbrev pub is_built : Call → Bool
is_built (CreatePool name devices) = true
is_built EngineStateReport = true
is_built call = false

-- where a call may meet that
abbrev pub IsLicensed : EngineState → Call → Env → Type 0
IsLicensed s call env = is_some (outcome s call env) ≡ true

abbrev pub step : EngineState → Call → Env → Reply × EngineState
step s call env = unwrap_or (outcome s call env) (refused OutOfMemory, s)
