-- what CreatePool answers, as the table and the started pool of the name tell it
use Rattle.std.specs.Prelude.{◌+◌, List, [], ◌∷◌, ◌++◌, length, Bool, ◌||◌, nat_le, nat_lt, bytes_eq, find, Option, Some, None, is_some, option_map}
use Rattle.st_limits.specs.declared.TheConstants.{MAX_POOLS, MAX_POOL_DEVICES, MAX_POOL_SERIAL}
use Rattle.st_units.specs.declared.cause.Cause.{Cause}
use Rattle.st_units.specs.declared.cause.Cause.TheVariants.{NameInUse, DeviceInUse, TooManyDevices, TooManyPools}
use Rattle.st_model.specs.declared.reply.Reply.{Reply}
use Rattle.st_model.specs.declared.state.KnownPool.{KnownPool}
use Rattle.st_model.specs.declared.state.PoolState.{PoolState}
use Rattle.st_model.specs.declared.state.TableState.{TableState}
use Rattle.st_model.specs.Answer.{refused, refused_by, refused_where, first_answer}
use Rattle.st_model.specs.Checks.{no_devices, absent_device, small_device}
use Rattle.st_model.specs.Look.{Text, is_name_of, distinct}
use Rattle.st_model.specs.Parts.{is_used}
use Rattle.st_model.specs.steps.CreatePool.{answer_held}

-- a known pool holds the name: as its own, or as the one that a rename in flight gives it
abbrev pub is_held : Text → KnownPool → Bool
is_held name pool = bytes_eq pool.name name || is_name_of name pool.new

-- what is answered where a known pool holds the name; `own` is the started pool that has it
abbrev pub held_answer : Text → List Text → Option PoolState → Option KnownPool → Option Reply
held_answer name paths own None = None
held_answer name paths None (Some known) = Some (refused NameInUse)
held_answer name paths (Some pool) (Some known) = answer_held name paths (Some pool)

abbrev pub user_of : Text → List KnownPool → Option KnownPool
user_of path names = find (is_used path) names

-- the first path that some known pool uses
abbrev pub first_taken : List Text → List KnownPool → Option Text
first_taken paths names = find (λ path. is_some (user_of path names)) paths

abbrev pub taken_by : List KnownPool → Option Text → Option Cause
taken_by names None = None
taken_by names (Some path) = option_map (λ (pool : KnownPool). DeviceInUse path pool.name) (user_of path names)

-- the answers that change nothing, in the order in which they are tried
abbrev pub table_answers : TableState → Option PoolState → Text → List Text → List (Option Reply)
table_answers t own name paths =
    no_devices paths
    ∷ absent_device paths t.devices
    ∷ held_answer name paths own (find (is_held name) t.names)
    ∷ refused_by (taken_by t.names (first_taken paths t.names))
    ∷ small_device paths t.devices
    ∷ refused_where (nat_lt MAX_POOL_DEVICES (length (distinct paths))) TooManyDevices
    ∷ refused_where (nat_le MAX_POOLS (length t.names) || nat_lt MAX_POOL_SERIAL t.next) TooManyPools
    ∷ []

unfoldable pub table_answer : TableState → Option PoolState → Text → List Text → Option Reply
table_answer t own name paths = first_answer (table_answers t own name paths)

-- the table with one known pool more, which took the next serial
abbrev pub with_known : TableState → KnownPool → TableState
with_known t pool = record t { names = t.names ++ pool ∷ []; next = t.next + 1 }
