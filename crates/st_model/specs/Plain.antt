-- what a call answers and leaves where it meets nothing: one line a call; none where a start finds a call in flight
use Rattle.std.specs.Prelude.{Some}
use Rattle.st_model.specs.declared.call.Call.{Call}
use Rattle.st_model.specs.declared.call.Call.TheVariants.{CreatePool, DestroyPool, StopPool, StartPool, RenamePool, AddDataDevs, InitCache, AddCacheDevs, CreateFilesystems, DestroyFilesystems, SnapshotFilesystem, RenameFilesystem, SetSizeLimit, SetFsLimit, SetOverprovisioning, SetMerge, PoolReport, PoolReports, EngineStateReport, PowerCycle, FsWrite, FsRead, Check}
use Rattle.st_model.specs.declared.state.EngineState.{EngineState}
use Rattle.st_model.specs.steps.CreatePool.{create_plain}
use Rattle.st_model.specs.steps.EngineStateReport.{report_plain}
use Rattle.st_model.specs.Lifted.{on_pool}
use Rattle.st_model.specs.Local.{Outcome, where_so}
use Rattle.st_model.specs.Sound.{are_few}
use Rattle.st_model.specs.steps.AddCacheDevs.{add_cache_devs}
use Rattle.st_model.specs.steps.AddDataDevs.{add_data_devs}
use Rattle.st_model.specs.steps.Check.{check_pool}
use Rattle.st_model.specs.steps.CreateFilesystems.{create_filesystems}
use Rattle.st_model.specs.steps.DestroyFilesystems.{destroy_filesystems}
use Rattle.st_model.specs.steps.DestroyPool.{destroy_pool}
use Rattle.st_model.specs.steps.InitCache.{init_cache}
use Rattle.st_model.specs.steps.FsRead.{fs_read}
use Rattle.st_model.specs.steps.FsWrite.{fs_write}
use Rattle.st_model.specs.steps.PoolReport.{pool_report}
use Rattle.st_model.specs.steps.PoolReports.{pool_reports}
use Rattle.st_model.specs.steps.PowerCycle.{power_cycle}
use Rattle.st_model.specs.steps.RenameFilesystem.{rename_filesystem}
use Rattle.st_model.specs.steps.SetMerge.{set_merge}
use Rattle.st_model.specs.steps.SetOverprovisioning.{set_overprovisioning}
use Rattle.st_model.specs.steps.SetSizeLimit.{set_size_limit}
use Rattle.st_model.specs.steps.RenamePool.{rename_pool}
use Rattle.st_model.specs.steps.SetFsLimit.{set_fs_limit}
use Rattle.st_model.specs.steps.SnapshotFilesystem.{snapshot_filesystem}
use Rattle.st_model.specs.steps.StartPool.{start_pool}
use Rattle.st_model.specs.steps.StopPool.{stop_pool}

abbrev pub plain : EngineState → Call → Outcome
plain s (CreatePool name devices) = Some (create_plain s name devices)
plain s (DestroyPool name) = Some (destroy_pool name s)
plain s (StopPool name) = Some (stop_pool name s)
plain s (StartPool id) = start_pool id s
plain s (RenamePool name new) = Some (rename_pool name new s)
plain s (AddDataDevs pool devices) = Some (add_data_devs pool devices s)
plain s (InitCache pool devices) = Some (init_cache pool devices s)
plain s (AddCacheDevs pool devices) = Some (add_cache_devs pool devices s)
plain s (CreateFilesystems pool specs) = Some (on_pool pool (create_filesystems specs) s)
plain s (DestroyFilesystems pool names) = Some (on_pool pool (destroy_filesystems names) s)
plain s (SnapshotFilesystem pool origin name) = Some (on_pool pool (snapshot_filesystem origin name) s)
plain s (SetFsLimit pool limit) = Some (on_pool pool (set_fs_limit limit) s)
plain s (PoolReport pool) = Some (on_pool pool pool_report s)
plain s (RenameFilesystem pool name new) = Some (on_pool pool (rename_filesystem name new) s)
plain s (SetSizeLimit pool name limit) = Some (on_pool pool (set_size_limit name limit) s)
plain s (SetOverprovisioning pool value) = Some (on_pool pool (set_overprovisioning value) s)
plain s (FsWrite pool name sector payload) = Some (on_pool pool (fs_write name sector payload) s)
plain s (FsRead pool name sector sectors) = Some (on_pool pool (fs_read name sector sectors) s)
plain s (Check pool) = Some (on_pool pool check_pool s)
plain s (SetMerge pool name value) = Some (on_pool pool (set_merge name value) s)
plain s (PoolReports pools) = where_so (are_few pools) (pool_reports pools s)
plain s EngineStateReport = Some (report_plain s)
plain s PowerCycle = Some (power_cycle s)
