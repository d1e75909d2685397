-- what CreatePool is answered without making a pool, as the table tells it
use Rattle.std.specs.Prelude.{◌≡◌, List, [], ◌∷◌, length, Bool, true, false, ◌&&◌, ◌||◌, nat_le, nat_lt, bytes_eq, find, Option, Some, None, is_some, option_map, if◌then◌else◌}
use Rattle.st_limits.specs.declared.TheConstants.{MAX_POOLS, MAX_POOL_DEVICES, MAX_POOL_SERIAL}
use Rattle.st_units.specs.declared.cause.Cause.{Cause}
use Rattle.st_units.specs.declared.cause.Cause.TheVariants.{DeviceInUse, NameInUse, TooManyDevices, TooManyPools}
use Rattle.st_model.specs.declared.info.PoolInfo.{PoolInfo}
use Rattle.st_model.specs.declared.info.ShownMode.{ShownMode}
use Rattle.st_model.specs.declared.info.ShownMode.TheVariants as shows
use Rattle.st_model.specs.declared.reply.Given.TheVariants.{Created}
use Rattle.st_model.specs.declared.reply.Reply.{Reply}
use Rattle.st_model.specs.declared.state.EngineState.{EngineState}
use Rattle.st_model.specs.Answer.{accepted, refused, refused_by, refused_where, first_answer}
use Rattle.st_model.specs.Checks.{absent_device, no_devices, small_device}
use Rattle.st_model.specs.Look.{Text, distinct, row_of}
use Rattle.st_model.specs.Parts.{own}
use Rattle.st_model.specs.Shown.{pool_info}
use Rattle.st_model.specs.Valid.{IsValid}
use Rattle.st_model.specs.steps.CreatePool.{create_answer, data_paths, same_set}
use Rattle.st_table.specs.Steps.{StandsFor}
use Rattle.st_table.specs.Table.{TableView, is_taken, user_name}

abbrev pub is_shown_up : ShownMode → Bool
is_shown_up shows.Up = true
is_shown_up shows.Down = false
is_shown_up shows.Stopped = false
is_shown_up shows.Unsettled = false
is_shown_up shows.Incomplete = false

-- the pool that is shown is what the call asks for
abbrev pub is_shown_made : Text → List Text → PoolInfo → Bool
is_shown_made name paths info = is_shown_up info.mode && bytes_eq info.name name && same_set (data_paths info.devs) paths

-- what is answered where a pool holds the name; `own` is shown of the started pool that has it
abbrev pub held_told : Text → List Text → Option PoolInfo → Bool → Option Reply
held_told name paths own false = None
held_told name paths None true = Some (refused NameInUse)
held_told name paths (Some info) true = if is_shown_made name paths info then Some (accepted (Created false None)) else Some (refused NameInUse)

-- the pool that uses a device of the rack
abbrev pub user_here : TableView → Text → Option Text
user_here view path = if is_some (row_of path view.devices) then user_name path view.pools else None

abbrev pub first_user : TableView → List Text → Option Text
first_user view paths = find (λ path. is_some (user_here view path)) paths

abbrev pub taken_told : TableView → Option Text → Option Cause
taken_told view None = None
taken_told view (Some path) = option_map (DeviceInUse path) (user_here view path)

-- the answers in the order in which they are tried
abbrev pub told_answers : TableView → Option PoolInfo → Text → List Text → List (Option Reply)
told_answers view own name paths =
    no_devices paths
    ∷ absent_device paths view.devices
    ∷ held_told name paths own (is_taken name view.pools)
    ∷ refused_by (taken_told view (first_user view paths))
    ∷ small_device paths view.devices
    ∷ refused_where (nat_lt MAX_POOL_DEVICES (length (distinct paths))) TooManyDevices
    ∷ refused_where (nat_le MAX_POOLS (length view.pools) || nat_lt MAX_POOL_SERIAL view.next) TooManyPools
    ∷ []

unfoldable pub told_answer : TableView → Option PoolInfo → Text → List Text → Option Reply
told_answer view own name paths = first_answer (told_answers view own name paths)

-- so the model answers it
abbrev pub ToldAlike : Type 0
ToldAlike = (view : TableView) (s : EngineState) (name : Text) (paths : List Text) → IsValid s → StandsFor view s → told_answer view (option_map pool_info (own name s)) name paths ≡ create_answer s name paths
