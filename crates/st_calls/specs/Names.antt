-- the names of the calls that a line may ask for
use Rattle.std.specs.Prelude.{ℕ, List, [], ◌∷◌, codes}
use Rattle.st_model.specs.declared.call.Call.{Call}
use Rattle.st_model.specs.declared.call.Call.TheVariants as calls
use Rattle.st_calls.specs.declared.call_name.CallName.{CallName}
use Rattle.st_calls.specs.declared.call_name.CallName.TheVariants.{CreatePool, DestroyPool, StopPool, StartPool, RenamePool, AddDataDevs, InitCache, AddCacheDevs, CreateFilesystems, DestroyFilesystems, SnapshotFilesystem, RenameFilesystem, SetSizeLimit, SetFsLimit, SetOverprovisioning, SetMerge, FsWrite, FsRead, Check, PoolReport, PoolReports, EngineStateReport}

abbrev pub call_text : CallName → List ℕ
call_text CreatePool = codes "CreatePool"
call_text DestroyPool = codes "DestroyPool"
call_text StopPool = codes "StopPool"
call_text StartPool = codes "StartPool"
call_text RenamePool = codes "RenamePool"
call_text AddDataDevs = codes "AddDataDevs"
call_text InitCache = codes "InitCache"
call_text AddCacheDevs = codes "AddCacheDevs"
call_text CreateFilesystems = codes "CreateFilesystems"
call_text DestroyFilesystems = codes "DestroyFilesystems"
call_text SnapshotFilesystem = codes "SnapshotFilesystem"
call_text RenameFilesystem = codes "RenameFilesystem"
call_text SetSizeLimit = codes "SetSizeLimit"
call_text SetFsLimit = codes "SetFsLimit"
call_text SetOverprovisioning = codes "SetOverprovisioning"
call_text SetMerge = codes "SetMerge"
call_text FsWrite = codes "FsWrite"
call_text FsRead = codes "FsRead"
call_text Check = codes "Check"
call_text PoolReport = codes "PoolReport"
call_text PoolReports = codes "PoolReports"
call_text EngineStateReport = codes "EngineStateReport"

abbrev pub all_names : List CallName
all_names =
    CreatePool ∷ DestroyPool ∷ StopPool ∷ StartPool ∷ RenamePool ∷ AddDataDevs ∷ InitCache ∷ AddCacheDevs
    ∷ CreateFilesystems ∷ DestroyFilesystems ∷ SnapshotFilesystem ∷ RenameFilesystem ∷ SetSizeLimit ∷ SetFsLimit ∷ SetOverprovisioning ∷ SetMerge
    ∷ FsWrite ∷ FsRead ∷ Check ∷ PoolReport ∷ PoolReports ∷ EngineStateReport ∷ []

-- the name of a call; no line can ask for a power cycle
abbrev pub call_word : Call → List ℕ
call_word (calls.CreatePool name devices) = codes "CreatePool"
call_word (calls.DestroyPool name) = codes "DestroyPool"
call_word (calls.StopPool name) = codes "StopPool"
call_word (calls.StartPool id) = codes "StartPool"
call_word (calls.RenamePool name new) = codes "RenamePool"
call_word (calls.AddDataDevs pool devices) = codes "AddDataDevs"
call_word (calls.InitCache pool devices) = codes "InitCache"
call_word (calls.AddCacheDevs pool devices) = codes "AddCacheDevs"
call_word (calls.CreateFilesystems pool filesystems) = codes "CreateFilesystems"
call_word (calls.DestroyFilesystems pool names) = codes "DestroyFilesystems"
call_word (calls.SnapshotFilesystem pool origin name) = codes "SnapshotFilesystem"
call_word (calls.RenameFilesystem pool name new) = codes "RenameFilesystem"
call_word (calls.SetSizeLimit pool name limit) = codes "SetSizeLimit"
call_word (calls.SetFsLimit pool limit) = codes "SetFsLimit"
call_word (calls.SetOverprovisioning pool value) = codes "SetOverprovisioning"
call_word (calls.SetMerge pool name value) = codes "SetMerge"
call_word (calls.FsWrite pool name sector payload) = codes "FsWrite"
call_word (calls.FsRead pool name sector sectors) = codes "FsRead"
call_word (calls.Check pool) = codes "Check"
call_word (calls.PoolReport pool) = codes "PoolReport"
call_word (calls.PoolReports pools) = codes "PoolReports"
call_word calls.EngineStateReport = codes "EngineStateReport"
call_word calls.PowerCycle = codes "PowerCycle"
