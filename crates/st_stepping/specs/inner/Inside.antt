-- the calls within a pool that make or end filesystems, the read and the check: the pool of each, and what is made of it
use Rattle.std.specs.Prelude.{Bool, true, false, []}
use Rattle.st_units.specs.declared.cause.Cause.TheVariants.{OutOfMemory}
use Rattle.st_model.specs.declared.call.Call.{Call}
use Rattle.st_model.specs.declared.call.Call.TheVariants.{Check, CreateFilesystems, DestroyFilesystems, FsRead, SnapshotFilesystem}
use Rattle.st_model.specs.Answer.{refused}
use Rattle.st_model.specs.Lifted.{Doing}
use Rattle.st_model.specs.Look.{Text}
use Rattle.st_model.specs.steps.Check.{check_pool}
use Rattle.st_model.specs.steps.CreateFilesystems.{create_filesystems}
use Rattle.st_model.specs.steps.DestroyFilesystems.{destroy_filesystems}
use Rattle.st_model.specs.steps.FsRead.{fs_read}
use Rattle.st_model.specs.steps.SnapshotFilesystem.{snapshot_filesystem}

abbrev pub is_inside : Call → Bool
is_inside (CreateFilesystems pool specs) = true
is_inside (DestroyFilesystems pool names) = true
is_inside (SnapshotFilesystem pool origin name) = true
is_inside (FsRead pool name sector sectors) = true
is_inside (Check pool) = true
is_inside call = false

abbrev pub name_in : Call → Text
name_in (CreateFilesystems pool specs) = pool
name_in (DestroyFilesystems pool names) = pool
name_in (SnapshotFilesystem pool origin name) = pool
name_in (FsRead pool name sector sectors) = pool
name_in (Check pool) = pool
name_in call = []

abbrev pub doing_of : Call → Doing
doing_of (CreateFilesystems pool specs) = create_filesystems specs
doing_of (DestroyFilesystems pool names) = destroy_filesystems names
doing_of (SnapshotFilesystem pool origin name) = snapshot_filesystem origin name
doing_of (FsRead pool name sector sectors) = fs_read name sector sectors
doing_of (Check pool) = check_pool
doing_of call = λ p. (refused OutOfMemory, p)
