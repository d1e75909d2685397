-- what a call that is refused memory makes of any state
use Rattle.std.proofs.Common.{◌≡◌, Some, refl}
use Rattle.st_units.specs.declared.cause.Cause.TheVariants.{OutOfMemory}
use Rattle.st_model.specs.declared.call.Call.{Call}
use Rattle.st_model.specs.declared.call.Call.TheVariants.{CreatePool, DestroyPool, StopPool, StartPool, RenamePool, AddDataDevs, InitCache, AddCacheDevs, CreateFilesystems, DestroyFilesystems, SnapshotFilesystem, RenameFilesystem, SetSizeLimit, SetFsLimit, SetOverprovisioning, FsWrite, FsRead, Check, PoolReport, PoolReports, EngineStateReport, SetMerge, PowerCycle}
use Rattle.st_model.specs.declared.entry.Env.TheVariants.{NoMem}
use Rattle.st_model.specs.declared.state.EngineState.{EngineState}
use Rattle.st_model.specs.Answer.{refused}
use Rattle.st_model.specs.Step.{outcome, step}

pub refused_outcome : (s : EngineState) (call : Call) → outcome s call NoMem ≡ Some (refused OutOfMemory, s)
refused_outcome s (CreatePool name devices) = refl
refused_outcome s (DestroyPool name) = refl
refused_outcome s (StopPool name) = refl
refused_outcome s (StartPool id) = refl
refused_outcome s (RenamePool name new) = refl
refused_outcome s (AddDataDevs pool devices) = refl
refused_outcome s (InitCache pool devices) = refl
refused_outcome s (AddCacheDevs pool devices) = refl
refused_outcome s (CreateFilesystems pool filesystems) = refl
refused_outcome s (DestroyFilesystems pool names) = refl
refused_outcome s (SnapshotFilesystem pool origin name) = refl
refused_outcome s (RenameFilesystem pool name new) = refl
refused_outcome s (SetSizeLimit pool name limit) = refl
refused_outcome s (SetFsLimit pool limit) = refl
refused_outcome s (SetOverprovisioning pool value) = refl
refused_outcome s (FsWrite pool name sector payload) = refl
refused_outcome s (FsRead pool name sector sectors) = refl
refused_outcome s (Check pool) = refl
refused_outcome s (PoolReport pool) = refl
refused_outcome s (PoolReports pools) = refl
refused_outcome s EngineStateReport = refl
refused_outcome s (SetMerge pool name value) = refl
refused_outcome s PowerCycle = refl

pub refused_step : (s : EngineState) (call : Call) → step s call NoMem ≡ (refused OutOfMemory, s)
refused_step s call = rw (refused_outcome s call) refl
