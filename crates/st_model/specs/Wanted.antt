-- what a call wants of the lock
use Rattle.std.specs.Prelude.{[], ◌∷◌}
use Rattle.st_wants.specs.Names.{names_of}
use Rattle.st_wants.specs.declared.want.Want.{Want}
use Rattle.st_wants.specs.declared.want.Want.TheVariants as wants
use Rattle.st_wants.specs.declared.want.Mode.TheVariants.{Read, Write}
use Rattle.st_model.specs.declared.call.Call.{Call}
use Rattle.st_model.specs.declared.call.Call.TheVariants.{CreatePool, DestroyPool, StopPool, StartPool, RenamePool, AddDataDevs, InitCache, AddCacheDevs, CreateFilesystems, DestroyFilesystems, SnapshotFilesystem, RenameFilesystem, SetSizeLimit, SetFsLimit, SetOverprovisioning, FsWrite, FsRead, Check, PoolReport, PoolReports, EngineStateReport, SetMerge, PowerCycle}

-- Calls on the set of pools or on a pool's devices want all to write, calls within one pool want that
-- pool (a read changes the cache, so it writes), and the reports read.
abbrev pub want_of : Call → Want
want_of (CreatePool name devices) = wants.All Write
want_of (DestroyPool name) = wants.All Write
want_of (StopPool name) = wants.All Write
want_of (StartPool id) = wants.All Write
want_of (RenamePool name new) = wants.All Write
want_of (AddDataDevs pool devices) = wants.All Write
want_of (InitCache pool devices) = wants.All Write
want_of (AddCacheDevs pool devices) = wants.All Write
want_of (CreateFilesystems pool filesystems) = wants.Some (pool ∷ []) Write
want_of (DestroyFilesystems pool names) = wants.Some (pool ∷ []) Write
want_of (SnapshotFilesystem pool origin name) = wants.Some (pool ∷ []) Write
want_of (RenameFilesystem pool name new) = wants.Some (pool ∷ []) Write
want_of (SetSizeLimit pool name limit) = wants.Some (pool ∷ []) Write
want_of (SetFsLimit pool limit) = wants.Some (pool ∷ []) Write
want_of (SetOverprovisioning pool value) = wants.Some (pool ∷ []) Write
want_of (FsWrite pool name sector payload) = wants.Some (pool ∷ []) Write
want_of (FsRead pool name sector sectors) = wants.Some (pool ∷ []) Write
want_of (Check pool) = wants.Some (pool ∷ []) Write
want_of (PoolReport pool) = wants.Some (pool ∷ []) Read
want_of (PoolReports pools) = wants.Some (names_of pools) Read
want_of EngineStateReport = wants.All Read
want_of (SetMerge pool name value) = wants.Some (pool ∷ []) Write
want_of PowerCycle = wants.All Write
