-- the calls on whole pools, by their members in the order in which they are looked at
use Rattle.std.specs.Prelude.{ℕ, List, Bool, true, false, Option, Some, None, Result, Ok, Err, bytes_eq, codes, if◌then◌else◌}
use Rattle.std.specs.Int.{from_be_bytes, w128}
use Rattle.serde_json.specs.Data.{Data}
use Rattle.serde_json.specs.Find.{get, as_str}
use Rattle.uuid.specs.Text.{parsed}
use Rattle.st_units.specs.declared.cause.Member.TheVariants as members
use Rattle.st_model.specs.Sound.{are_few}
use Rattle.st_model.specs.declared.call.Call.{Call}
use Rattle.st_model.specs.declared.call.Call.TheVariants.{CreatePool, DestroyPool, StopPool, StartPool, RenamePool, PoolReports}
use Rattle.st_model.specs.declared.call.PoolId.{PoolId}
use Rattle.st_model.specs.declared.call.PoolId.TheVariants.{ByName, ByUuid}
use Rattle.st_calls.specs.declared.fault.LineFault.{LineFault}
use Rattle.st_calls.specs.declared.fault.LineFault.TheVariants.{BadCall}
use Rattle.st_calls.specs.Gives.{◌>>=◌}
use Rattle.st_calls.specs.Members.{or_bad, text_at, name_at, paths_at, names_at}

-- the one pool that most calls are on
abbrev pub pool_at : Data → Result (List ℕ) LineFault
pool_at d = name_at members.Pool (codes "pool") d

abbrev pub own_name_at : Data → Result (List ℕ) LineFault
own_name_at d = name_at members.Name (codes "name") d

-- CreatePool: name, devices
unfoldable pub create_pool : Data → Result Call LineFault
create_pool d = own_name_at d >>= λ name. paths_at (codes "devices") d >>= λ devices. Ok (CreatePool name devices)

-- DestroyPool: name
unfoldable pub destroy_pool : Data → Result Call LineFault
destroy_pool d = own_name_at d >>= λ name. Ok (DestroyPool name)

-- StopPool: name
unfoldable pub stop_pool : Data → Result Call LineFault
stop_pool d = own_name_at d >>= λ name. Ok (StopPool name)

abbrev pub is_uuid_word : List ℕ → Result Bool LineFault
is_uuid_word word =
    if bytes_eq word (codes "name") then Ok false
    else if bytes_eq word (codes "uuid") then Ok true
    else Err (BadCall members.IdType)

abbrev pub is_uuid_told : Option Data → Result Bool LineFault
is_uuid_told None = Ok false
is_uuid_told (Some d) = or_bad members.IdType (as_str d) >>= is_uuid_word

-- whether the id is a UUID: `name`, `uuid`, or absent, which means a name
unfoldable pub id_type : Data → Result Bool LineFault
id_type d = is_uuid_told (get (codes "id_type") d)

-- the number that a UUID's text writes, in each of the forms that `uuid` parses
abbrev pub uuid_of : List ℕ → Result PoolId LineFault
uuid_of text = or_bad members.Id (parsed text) >>= λ bytes. Ok (ByUuid (from_be_bytes w128 bytes))

abbrev pub id_of : Bool → Data → Result PoolId LineFault
id_of true d = text_at members.Id (codes "id") d >>= uuid_of
id_of false d = name_at members.Id (codes "id") d >>= λ name. Ok (ByName name)

-- StartPool: id_type, id
unfoldable pub start_pool : Data → Result Call LineFault
start_pool d = id_type d >>= λ is_uuid. id_of is_uuid d >>= λ id. Ok (StartPool id)

-- RenamePool: name, new
unfoldable pub rename_pool : Data → Result Call LineFault
rename_pool d = own_name_at d >>= λ name. name_at members.New (codes "new") d >>= λ new. Ok (RenamePool name new)

-- AddDataDevs, InitCache, AddCacheDevs: pool, devices
unfoldable pub devices_call : (List ℕ → List (List ℕ) → Call) → Data → Result Call LineFault
devices_call call d = pool_at d >>= λ pool. paths_at (codes "devices") d >>= λ devices. Ok (call pool devices)

-- Check, PoolReport: pool
unfoldable pub pool_call : (List ℕ → Call) → Data → Result Call LineFault
pool_call call d = pool_at d >>= λ pool. Ok (call pool)

-- a faulty element decides before the count of the distinct names does
unfoldable pub pools_at : Data → Result (List (List ℕ)) LineFault
pools_at d = names_at members.Pools (codes "pools") d >>= λ pools. if are_few pools then Ok pools else Err (BadCall members.Pools)

-- PoolReports: pools
unfoldable pub pool_reports : Data → Result Call LineFault
pool_reports d = pools_at d >>= λ pools. Ok (PoolReports pools)
