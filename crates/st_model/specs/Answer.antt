-- replies, and the order in which a call's refusals are tried
use Rattle.std.specs.Prelude.{ℕ, Bool, List, [], ◌∷◌, Option, Some, None, if◌then◌else◌}
use Rattle.st_units.specs.declared.cause.Cause.{Cause}
use Rattle.st_units.specs.declared.cause.Cause.TheVariants.{BadCall, BadName, EmptyDevices, NoSuchDevice, NameInUse, DeviceInUse, DeviceTooSmall, TooManyDevices, TooManyPools, Maintenance, PoolStopped, NotEmpty, NoSuchPool, MissingDevice, PoolVanished, CacheExists, NoCache, BadSize, TooManyFilesystems, OverProvision, NoSuchFilesystem, MappingFull, LimitBelowSize, LimitLower, OutOfRange, NoSpace, DeviceFault, OutOfMemory, Worn, NoOrigin, MergeConflict}
use Rattle.st_model.specs.declared.reply.Given.{Given}
use Rattle.st_model.specs.declared.reply.Reply.{Reply}

-- the code of a refusal; 0 is the code of an acceptance
abbrev pub code_of : Cause → ℕ
code_of (BadCall member) = 1
code_of (BadName member) = 2
code_of EmptyDevices = 3
code_of (NoSuchDevice path) = 4
code_of NameInUse = 5
code_of (DeviceInUse path pool) = 6
code_of (DeviceTooSmall path) = 7
code_of TooManyDevices = 8
code_of TooManyPools = 9
code_of (Maintenance pool) = 10
code_of PoolStopped = 11
code_of (NotEmpty filesystems) = 12
code_of NoSuchPool = 13
code_of (MissingDevice path) = 14
code_of PoolVanished = 15
code_of CacheExists = 16
code_of NoCache = 17
code_of (BadSize name) = 18
code_of TooManyFilesystems = 19
code_of (OverProvision sum room) = 20
code_of NoSuchFilesystem = 21
code_of (MappingFull mappings more) = 22
code_of (LimitBelowSize name) = 23
code_of LimitLower = 24
code_of OutOfRange = 25
code_of (NoSpace free needed) = 26
code_of DeviceFault = 27
code_of OutOfMemory = 28
code_of Worn = 29
code_of NoOrigin = 31
code_of (MergeConflict name) = 32

abbrev pub refused : Cause → Reply
refused cause = record { code = code_of cause; result = None; cause = Some cause }

abbrev pub accepted : Given → Reply
accepted given = record { code = 0; result = Some given; cause = None }

abbrev pub refused_by : Option Cause → Option Reply
refused_by None = None
refused_by (Some cause) = Some (refused cause)

abbrev pub refused_where : Bool → Cause → Option Reply
refused_where b cause = if b then Some (refused cause) else None

-- the first answer, if one is there
abbrev pub first_answer : List (Option Reply) → Option Reply
first_answer [] = None
first_answer (None ∷ answers) = first_answer answers
first_answer (Some reply ∷ answers) = Some reply

-- that answer with nothing changed, else what follows
abbrev pub unless_answered : {S : Type 0} → Option Reply → S → Reply × S → Reply × S
unless_answered None s next = next
unless_answered (Some reply) s next = (reply, s)

-- what follows where there is no such answer, else nothing
abbrev pub where_unanswered : {S : Type 0} → Option Reply → S → Option S
where_unanswered None next = Some next
where_unanswered (Some reply) next = None
