-- writes that fail, and what the next start finds
use Rattle.std.specs.Prelude.{◌≡◌, List, [], ◌∷◌, ◌++◌, true, false, map, Some, None}
use Rattle.st_units.specs.declared.cause.Cause.TheVariants.{BadSize, DeviceFault, DeviceInUse, LimitLower, Maintenance, NameInUse}
use Rattle.st_model.specs.declared.call.Call.{Call}
use Rattle.st_model.specs.declared.call.Call.TheVariants.{AddDataDevs, CreatePool, DestroyPool, RenamePool, SetFsLimit, StartPool, StopPool}
use Rattle.st_model.specs.declared.call.PoolId.TheVariants.{ByName}
use Rattle.st_model.specs.declared.entry.Env.{Env}
use Rattle.st_model.specs.declared.entry.Env.TheVariants.{After, Before, FaultWrite, Plain}
use Rattle.st_model.specs.declared.reply.Given.TheVariants.{Changed, Created, Done}
use Rattle.st_model.specs.declared.reply.Identity.TheVariants.{Pool}
use Rattle.st_model.specs.declared.reply.Reply.{Reply}
use Rattle.st_model.specs.declared.state.EngineState.{EngineState}
use Rattle.st_model.specs.declared.state.PoolState.{PoolState}
use Rattle.st_model.specs.Answer.{accepted, refused}
use Rattle.st_model.specs.Look.{Text}
use Rattle.st_model.specs.Step.{step}
use Rattle.st_model.specs.Sums.{room}
use Rattle.test_model.specs.Filesystems.{is_made, made, p}
use Rattle.test_model.specs.Scripts.{device, on_rack, replies, sim}

-- the same of calls that meet something
abbrev pub answers : EngineState → List (Call × Env) → List Reply
answers s [] = []
answers s ((call, env) ∷ calls) = (step s call env).0 ∷ answers (step s call env).1 calls

abbrev pub left : EngineState → List (Call × Env) → EngineState
left s [] = s
left s ((call, env) ∷ calls) = left (step s call env).1 calls

abbrev q : Text
q = 113 ∷ []

abbrev r : Text
r = 114 ∷ []

abbrev two : EngineState
two = on_rack (device 0 65536 ∷ device 1 65536 ∷ [])

abbrev is_changed : Reply
is_changed = accepted (Changed true (Some (Pool 1)))

-- a name that a failed rename was to give is held, and is free again once the start finds the state before
abbrev renamed_calls : List (Call × Env)
renamed_calls =
    (made, Plain)
    ∷ (RenamePool p q, FaultWrite)
    ∷ (RenamePool p r, Plain)
    ∷ (CreatePool q (sim 1 ∷ []), Plain)
    ∷ (StopPool p, Plain)
    ∷ (StartPool (ByName p), Before [])
    ∷ (CreatePool q (sim 1 ∷ []), Plain)
    ∷ []

abbrev pub NameIsHeld : Type 0
NameIsHeld = answers two renamed_calls
    ≡ is_made
    ∷ refused DeviceFault
    ∷ refused (Maintenance p)
    ∷ refused NameInUse
    ∷ is_changed
    ∷ is_changed
    ∷ accepted (Created true (Some (2, sim 1 ∷ [])))
    ∷ []

-- a device that a failed call was to add is in use
abbrev failed_calls : List (Call × Env)
failed_calls =
    (made, Plain)
    ∷ (AddDataDevs p (sim 0 ∷ sim 1 ∷ []), FaultWrite)
    ∷ (AddDataDevs p (sim 1 ∷ []), Plain)
    ∷ (CreatePool q (sim 1 ∷ []), Plain)
    ∷ (StopPool p, Plain)
    ∷ []

abbrev is_failed : List Reply
is_failed = is_made ∷ refused DeviceFault ∷ refused (Maintenance p) ∷ refused (DeviceInUse (sim 1) p) ∷ is_changed ∷ []

-- it is free again after the state before, and belongs to the pool after the state after
abbrev pub DeviceIsHeld : Type 0
DeviceIsHeld =
    (answers two (failed_calls ++ (StartPool (ByName p), Before []) ∷ (CreatePool q (sim 1 ∷ []), Plain) ∷ [])
    ≡ is_failed ++ is_changed ∷ accepted (Created true (Some (2, sim 1 ∷ []))) ∷ [])
    × ((answers two (failed_calls ++ (StartPool (ByName p), After) ∷ (CreatePool q (sim 1 ∷ []), Plain) ∷ []) ≡ is_failed ++ is_changed ∷ refused (DeviceInUse (sim 1) p) ∷ [])
    × (map (λ (pool : PoolState). room pool) (left two (failed_calls ++ (StartPool (ByName p), After) ∷ [])).pools ≡ 994 ∷ []))

-- renamed, ended, ended again; the next pool has the next serial
abbrev pub SerialsRise : Type 0
SerialsRise = replies two (made ∷ RenamePool p q ∷ DestroyPool q ∷ DestroyPool q ∷ made ∷ [])
    ≡ is_made ∷ is_changed ∷ is_changed ∷ accepted (Changed false None) ∷ accepted (Created true (Some (2, sim 0 ∷ []))) ∷ []

abbrev pub LimitsRise : Type 0
LimitsRise = replies two (made ∷ SetFsLimit p 99 ∷ SetFsLimit p 257 ∷ SetFsLimit p 100 ∷ SetFsLimit p 256 ∷ [])
    ≡ is_made ∷ refused LimitLower ∷ refused (BadSize p) ∷ accepted (Done false) ∷ accepted (Done true) ∷ []
