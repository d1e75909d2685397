-- calls as the trace shows them: their name and their members, defaults written out, absent values null
use Rattle.std.specs.Prelude.{ℕ, List, Bool, codes, map, Option}
use Rattle.std.specs.Int.{to_be_bytes, w128}
use Rattle.hex.specs.Hex.{encode_lower}
use Rattle.uuid.specs.Text.{hyphenated_text, lower}
use Rattle.serde_json.specs.Data.{Data, boolean, string, array, object, no_members, member}
use Rattle.serde_json.specs.View.{items_of}
use Rattle.st_report.specs.Values.{count, count_or_null, texts}
use Rattle.st_units.specs.declared.rows.FsSpec.{FsSpec}
use Rattle.st_model.specs.declared.call.Call.{Call}
use Rattle.st_model.specs.declared.call.Call.TheVariants.{CreatePool, DestroyPool, StopPool, StartPool, RenamePool, AddDataDevs, InitCache, AddCacheDevs, CreateFilesystems, DestroyFilesystems, SnapshotFilesystem, RenameFilesystem, SetSizeLimit, SetFsLimit, SetOverprovisioning, SetMerge, FsWrite, FsRead, Check, PoolReport, PoolReports, EngineStateReport, PowerCycle}
use Rattle.st_model.specs.declared.call.PoolId.{PoolId}
use Rattle.st_model.specs.declared.call.PoolId.TheVariants.{ByName, ByUuid}
use Rattle.st_model.specs.declared.call.Payload.{Payload}
use Rattle.st_model.specs.declared.call.Payload.TheVariants.{Fill, Given}

unfoldable pub bare_call : List ℕ → Data
bare_call call = object (member (codes "call") (string call) no_members)

unfoldable pub named_call : List ℕ → List ℕ → Data
named_call call name = object (
    member (codes "call") (string call) (
    member (codes "name") (string name) no_members))

unfoldable pub pool_call : List ℕ → List ℕ → Data
pool_call call pool = object (
    member (codes "call") (string call) (
    member (codes "pool") (string pool) no_members))

unfoldable pub create_call : List ℕ → List (List ℕ) → Data
create_call name devices = object (
    member (codes "call") (string (codes "CreatePool")) (
    member (codes "devices") (texts devices) (
    member (codes "name") (string name) no_members)))

unfoldable pub start_call : List ℕ → List ℕ → Data
start_call id id_type = object (
    member (codes "call") (string (codes "StartPool")) (
    member (codes "id") (string id) (
    member (codes "id_type") (string id_type) no_members)))

-- a UUID hyphenated, in lower case
unfoldable pub uuid_form : ℕ → List ℕ
uuid_form id = hyphenated_text lower (to_be_bytes w128 id)

unfoldable pub start_data : PoolId → Data
start_data (ByName name) = start_call name (codes "name")
start_data (ByUuid id) = start_call (uuid_form id) (codes "uuid")

unfoldable pub rename_call : List ℕ → List ℕ → Data
rename_call name new = object (
    member (codes "call") (string (codes "RenamePool")) (
    member (codes "name") (string name) (
    member (codes "new") (string new) no_members)))

unfoldable pub devices_call : List ℕ → List ℕ → List (List ℕ) → Data
devices_call call pool devices = object (
    member (codes "call") (string call) (
    member (codes "devices") (texts devices) (
    member (codes "pool") (string pool) no_members)))

unfoldable pub fs_spec : FsSpec → Data
fs_spec fs = object (
    member (codes "limit") (count_or_null fs.limit) (
    member (codes "name") (string fs.name) (
    member (codes "size") (count_or_null fs.size) no_members)))

unfoldable pub fs_specs : List FsSpec → Data
fs_specs filesystems = array (items_of (map fs_spec filesystems))

unfoldable pub create_fs_call : List ℕ → List FsSpec → Data
create_fs_call pool filesystems = object (
    member (codes "call") (string (codes "CreateFilesystems")) (
    member (codes "filesystems") (fs_specs filesystems) (
    member (codes "pool") (string pool) no_members)))

unfoldable pub destroy_fs_call : List ℕ → List (List ℕ) → Data
destroy_fs_call pool names = object (
    member (codes "call") (string (codes "DestroyFilesystems")) (
    member (codes "names") (texts names) (
    member (codes "pool") (string pool) no_members)))

unfoldable pub snapshot_call : List ℕ → List ℕ → List ℕ → Data
snapshot_call pool origin name = object (
    member (codes "call") (string (codes "SnapshotFilesystem")) (
    member (codes "name") (string name) (
    member (codes "origin") (string origin) (
    member (codes "pool") (string pool) no_members))))

unfoldable pub rename_fs_call : List ℕ → List ℕ → List ℕ → Data
rename_fs_call pool name new = object (
    member (codes "call") (string (codes "RenameFilesystem")) (
    member (codes "name") (string name) (
    member (codes "new") (string new) (
    member (codes "pool") (string pool) no_members))))

unfoldable pub size_limit_call : List ℕ → List ℕ → Option ℕ → Data
size_limit_call pool name limit = object (
    member (codes "call") (string (codes "SetSizeLimit")) (
    member (codes "limit") (count_or_null limit) (
    member (codes "name") (string name) (
    member (codes "pool") (string pool) no_members))))

unfoldable pub fs_limit_call : List ℕ → ℕ → Data
fs_limit_call pool limit = object (
    member (codes "call") (string (codes "SetFsLimit")) (
    member (codes "limit") (count limit) (
    member (codes "pool") (string pool) no_members)))

unfoldable pub overprovisioning_call : List ℕ → Bool → Data
overprovisioning_call pool value = object (
    member (codes "call") (string (codes "SetOverprovisioning")) (
    member (codes "pool") (string pool) (
    member (codes "value") (boolean value) no_members)))

unfoldable pub merge_call : List ℕ → List ℕ → Bool → Data
merge_call pool name value = object (
    member (codes "call") (string (codes "SetMerge")) (
    member (codes "name") (string name) (
    member (codes "pool") (string pool) (
    member (codes "value") (boolean value) no_members))))

unfoldable pub reports_call : List (List ℕ) → Data
reports_call pools = object (
    member (codes "call") (string (codes "PoolReports")) (
    member (codes "pools") (texts pools) no_members))

unfoldable pub fill_call : List ℕ → List ℕ → ℕ → ℕ → ℕ → Data
fill_call pool name sector byte sectors = object (
    member (codes "call") (string (codes "FsWrite")) (
    member (codes "fill") (count byte) (
    member (codes "name") (string name) (
    member (codes "pool") (string pool) (
    member (codes "sector") (count sector) (
    member (codes "sectors") (count sectors) no_members))))))

unfoldable pub hex_call : List ℕ → List ℕ → ℕ → List ℕ → Data
hex_call pool name sector bytes = object (
    member (codes "call") (string (codes "FsWrite")) (
    member (codes "hex") (string (encode_lower bytes)) (
    member (codes "name") (string name) (
    member (codes "pool") (string pool) (
    member (codes "sector") (count sector) no_members)))))

unfoldable pub write_data : List ℕ → List ℕ → ℕ → Payload → Data
write_data pool name sector (Fill byte sectors) = fill_call pool name sector byte sectors
write_data pool name sector (Given bytes) = hex_call pool name sector bytes

unfoldable pub read_call : List ℕ → List ℕ → ℕ → ℕ → Data
read_call pool name sector sectors = object (
    member (codes "call") (string (codes "FsRead")) (
    member (codes "name") (string name) (
    member (codes "pool") (string pool) (
    member (codes "sector") (count sector) (
    member (codes "sectors") (count sectors) no_members)))))

unfoldable pub call_data : Call → Data
call_data (CreatePool name devices) = create_call name devices
call_data (DestroyPool name) = named_call (codes "DestroyPool") name
call_data (StopPool name) = named_call (codes "StopPool") name
call_data (StartPool id) = start_data id
call_data (RenamePool name new) = rename_call name new
call_data (AddDataDevs pool devices) = devices_call (codes "AddDataDevs") pool devices
call_data (InitCache pool devices) = devices_call (codes "InitCache") pool devices
call_data (AddCacheDevs pool devices) = devices_call (codes "AddCacheDevs") pool devices
call_data (CreateFilesystems pool filesystems) = create_fs_call pool filesystems
call_data (DestroyFilesystems pool names) = destroy_fs_call pool names
call_data (SnapshotFilesystem pool origin name) = snapshot_call pool origin name
call_data (RenameFilesystem pool name new) = rename_fs_call pool name new
call_data (SetSizeLimit pool name limit) = size_limit_call pool name limit
call_data (SetFsLimit pool limit) = fs_limit_call pool limit
call_data (SetOverprovisioning pool value) = overprovisioning_call pool value
call_data (SetMerge pool name value) = merge_call pool name value
call_data (FsWrite pool name sector payload) = write_data pool name sector payload
call_data (FsRead pool name sector sectors) = read_call pool name sector sectors
call_data (Check pool) = pool_call (codes "Check") pool
call_data (PoolReport pool) = pool_call (codes "PoolReport") pool
call_data (PoolReports pools) = reports_call pools
call_data EngineStateReport = bare_call (codes "EngineStateReport")
call_data PowerCycle = bare_call (codes "PowerCycle")
