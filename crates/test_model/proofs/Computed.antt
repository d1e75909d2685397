-- the rows, computed
use Rattle.std.proofs.Common.{refl}
use Rattle.st_model.specs.Lifted.{on_pool}
use Rattle.st_model.specs.Shown.{pool_info}
use Rattle.st_model.specs.steps.AddDevices.{add_devices}
use Rattle.st_model.specs.steps.Check.{check_pool}
use Rattle.st_model.specs.steps.CreateFilesystems.{create_filesystems}
use Rattle.st_model.specs.steps.CreatePool.{create_answer, create_plain}
use Rattle.st_model.specs.steps.DestroyFilesystems.{destroy_filesystems}
use Rattle.st_model.specs.steps.DestroyPool.{destroy_pool}
use Rattle.st_model.specs.steps.FsRead.{fs_read}
use Rattle.st_model.specs.steps.FsWrite.{fs_write}
use Rattle.st_model.specs.steps.PoolReport.{pool_report}
use Rattle.st_model.specs.steps.RenamePool.{rename_pool}
use Rattle.st_model.specs.steps.SetFsLimit.{set_fs_limit}
use Rattle.st_model.specs.steps.SetMerge.{set_merge}
use Rattle.st_model.specs.steps.SetOverprovisioning.{set_overprovisioning}
use Rattle.st_model.specs.steps.SnapshotFilesystem.{snapshot_filesystem}
use Rattle.st_model.specs.steps.StartPool.{start_pool}
use Rattle.st_model.specs.steps.StopPool.{stop_pool}
use Rattle.test_model.specs.Devices.{AddedOnce, CacheMadeOnce, HeldOnce, RepeatedOnce, SmallRefused}
use Rattle.test_model.specs.Faults.{DeviceIsHeld, LimitsRise, NameIsHeld, SerialsRise}
use Rattle.test_model.specs.Filesystems.{CreatedOnce, HandedOn, MarksCleared, WithinRoom}
use Rattle.test_model.specs.Full.{MappingsEnd, NewIsReported, SpaceEnds}
use Rattle.test_model.specs.Session.{OrdinarySession, SnapshotOutlives, UnwrittenIsZero}
use Rattle.test_model.specs.Writing.{CacheCounts, CheckExtends, MergedAtStart, ReadsAreBounded, SharedIsKept}

pub held-once : HeldOnce
unfolding create_plain create_answer
held-once = refl

pub repeated-once : RepeatedOnce
unfolding create_plain create_answer
repeated-once = refl

pub small-refused : SmallRefused
unfolding create_plain create_answer
small-refused = (refl, refl)

pub added-once : AddedOnce
unfolding create_plain create_answer add_devices
added-once = (refl, refl)

pub cache-made-once : CacheMadeOnce
unfolding create_plain create_answer add_devices
cache-made-once = (refl, refl)

pub created-once : CreatedOnce
unfolding create_plain create_answer on_pool create_filesystems
created-once = (refl, refl)

pub within-room : WithinRoom
unfolding create_plain create_answer on_pool create_filesystems set_overprovisioning
within-room = refl

pub handed-on : HandedOn
unfolding create_plain create_answer on_pool create_filesystems snapshot_filesystem destroy_filesystems
handed-on = (refl, (refl, refl))

pub marks-cleared : MarksCleared
unfolding create_plain create_answer on_pool create_filesystems snapshot_filesystem destroy_filesystems set_merge
marks-cleared = (refl, refl)

pub reads-bounded : ReadsAreBounded
unfolding create_plain create_answer on_pool create_filesystems fs_read
reads-bounded = refl

pub shared-kept : SharedIsKept
unfolding create_plain create_answer on_pool create_filesystems snapshot_filesystem destroy_filesystems fs_write
shared-kept = (refl, (refl, (refl, (refl, refl))))

pub merged-at-start : MergedAtStart
unfolding create_plain create_answer on_pool create_filesystems snapshot_filesystem set_merge stop_pool start_pool fs_read fs_write
merged-at-start = (refl, (refl, refl))

pub check-extends : CheckExtends
unfolding create_plain create_answer on_pool create_filesystems check_pool fs_write
check-extends = (refl, refl)

pub ordinary-session : OrdinarySession
unfolding create_plain create_answer on_pool create_filesystems snapshot_filesystem add_devices stop_pool start_pool fs_read fs_write pool_report pool_info
ordinary-session = refl

pub unwritten-zero : UnwrittenIsZero
unfolding create_plain create_answer on_pool create_filesystems fs_read
unwritten-zero = refl

pub snapshot-outlives : SnapshotOutlives
unfolding create_plain create_answer on_pool create_filesystems snapshot_filesystem destroy_filesystems fs_read fs_write
snapshot-outlives = (refl, refl)

pub cache-counts : CacheCounts
unfolding create_plain create_answer on_pool create_filesystems add_devices check_pool fs_read fs_write
cache-counts = refl

pub name-held : NameIsHeld
unfolding create_plain create_answer rename_pool stop_pool start_pool
name-held = refl

pub device-held : DeviceIsHeld
unfolding create_plain create_answer add_devices stop_pool start_pool
device-held = (refl, (refl, refl))

pub serials-rise : SerialsRise
unfolding create_plain create_answer rename_pool destroy_pool
serials-rise = refl

pub limits-rise : LimitsRise
unfolding create_plain create_answer on_pool set_fs_limit
limits-rise = refl

pub new-reported : NewIsReported
unfolding create_plain create_answer on_pool pool_report pool_info
new-reported = refl

pub space-ends : SpaceEnds
unfolding on_pool snapshot_filesystem fs_write
space-ends = refl

pub mappings-end : MappingsEnd
unfolding on_pool create_filesystems snapshot_filesystem fs_write
mappings-end = refl
