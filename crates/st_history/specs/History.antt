-- histories: logs of the lock in which each entry is the engine's at its place
use Rattle.std.specs.Prelude.{ℕ, ◌≡◌, ◌<◌, List, [], ◌∷◌, map, find, Option, Some, IsSomeAnd}
use Rattle.st_units.specs.declared.cause.Cause.{Cause}
use Rattle.st_units.specs.declared.cause.Cause.TheVariants as causes
use Rattle.st_wants.specs.declared.want.Want.{Want}
use Rattle.st_wants.specs.Lock.{Lock, start, row_at}
use Rattle.st_wants.specs.Rules.{Move, May, lock_after}
use Rattle.st_wants.specs.Rules as rule
use Rattle.st_model.specs.declared.call.Call.{Call}
use Rattle.st_model.specs.declared.call.Call.TheVariants.{Check, FsWrite}
use Rattle.st_model.specs.declared.entry.Entry.{Entry}
use Rattle.st_model.specs.declared.entry.Env.TheVariants.{Plain, NoMem}
use Rattle.st_history.specs.declared.log.Event.{Event}
use Rattle.st_history.specs.declared.log.Event.TheVariants.{Arrive, Grant, Release}
use Rattle.st_model.specs.declared.entry.Origin.{Origin}
use Rattle.st_model.specs.declared.entry.Origin.TheVariants.{Line, Prepare, Close}
use Rattle.st_model.specs.declared.entry.Origin.TheVariants as origins
use Rattle.st_model.specs.declared.state.EngineState.{EngineState}
use Rattle.st_model.specs.declared.state.PoolState.{PoolState}
use Rattle.st_model.specs.Look.{is_called}
use Rattle.st_model.specs.Step.{IsLicensed, step}
use Rattle.st_model.specs.Sums.{room}
use Rattle.st_model.specs.Wanted.{want_of}

-- the lock with no ticket out
abbrev pub idle : ℕ → Lock
idle next = record { next = next; rows = [] }

-- what an event does to the lock
abbrev pub move_of : Event → Move
move_of (Arrive seat ticket want) = rule.Arrive seat ticket want
move_of (Grant seat ticket) = rule.Grant seat ticket
move_of (Release seat ticket entries) = rule.Release seat ticket

abbrev pub moves_of : List Event → List Move
moves_of log = map move_of log

-- the state after the calls of these entries, one after the other
abbrev pub state_after : EngineState → List Entry → EngineState
state_after s [] = s
state_after s (e ∷ es) = state_after (step s e.call e.env).1 es

abbrev pub state_past : EngineState → Event → EngineState
state_past s (Arrive seat ticket want) = s
state_past s (Grant seat ticket) = s
state_past s (Release seat ticket entries) = state_after s entries.items

-- the state after all entries of the log
abbrev pub replay : EngineState → List Event → EngineState
replay s [] = s
replay s (e ∷ es) = replay (state_past s e) es

-- each entry met what its call may meet there, and was answered as the step answers it there
abbrev pub AreSteps : EngineState → List Entry → Type 0
AreSteps s [] = Unit {0}
AreSteps s (e ∷ es) = IsLicensed s e.call e.env × (e.reply ≡ (step s e.call e.env).0) × AreSteps (step s e.call e.env).1 es

abbrev pub IsNotPrepare : Origin → Type 0
IsNotPrepare (Line n) = Unit {0}
IsNotPrepare origins.Event = Unit {0}
IsNotPrepare Prepare = ⊥
IsNotPrepare Close = Unit {0}

abbrev pub IsNoSpace : Option Cause → Type 0
IsNoSpace (Some (causes.NoSpace free needed)) = Unit {0}
IsNoSpace _ = ⊥

-- the call is a write that finds no space, in a pool whose data tier could give more
abbrev pub IsShort : EngineState → Call → Type 0
IsShort s (FsWrite pool name sector payload) =
    IsNoSpace (step s (FsWrite pool name sector payload) Plain).0.cause
    × IsSomeAnd (find (is_called pool) s.pools) (λ (p : PoolState). p.allocated < room p)
IsShort s _ = ⊥

-- the first call makes room for the second: a check of the pool that the second one writes to
abbrev pub MakesRoom : Call → Call → Type 0
MakesRoom (Check pool) (FsWrite other name sector payload) = pool ≡ other
MakesRoom _ _ = ⊥

-- one call, which isn't a write that finds no space where more could be had, unless memory was refused;
-- or a check that makes room for just such a write, and where memory was refused to it, to the write too
abbrev pub AreOneCall : EngineState → List Entry → Type 0
AreOneCall s [] = ⊥
AreOneCall s (e ∷ []) = IsNotPrepare e.from × (IsShort s e.call → e.env ≡ NoMem)
AreOneCall s (c ∷ e ∷ []) =
    (c.from ≡ Prepare) × IsNotPrepare e.from × MakesRoom c.call e.call × IsShort s e.call × (c.env ≡ NoMem → e.env ≡ NoMem)
AreOneCall s (c ∷ d ∷ e ∷ es) = ⊥

-- the last entry's call wants what the ticket asked for
abbrev pub IsOf : Want → List Entry → Type 0
IsOf want [] = ⊥
IsOf want (e ∷ []) = want_of e.call ≡ want
IsOf want (c ∷ e ∷ es) = IsOf want (e ∷ es)

-- what a release may hold in this state of the lock and of the engine
abbrev pub IsDue : Lock → EngineState → Event → Type 0
IsDue l s (Arrive seat ticket want) = Unit {0}
IsDue l s (Grant seat ticket) = Unit {0}
IsDue l s (Release seat ticket entries) =
    AreSteps s entries.items × AreOneCall s entries.items × IsSomeAnd (row_at ticket l.rows) (λ r. IsOf r.want entries.items)

-- each event is one that the lock and the engine allow after those before it
abbrev pub HistoryFrom : Lock → EngineState → List Event → Type 0
HistoryFrom l s [] = Unit {0}
HistoryFrom l s (e ∷ es) = May l (move_of e) × IsDue l s e × HistoryFrom (lock_after l (move_of e)) (state_past s e) es

abbrev pub History : EngineState → List Event → Type 0
History s log = HistoryFrom start s log
