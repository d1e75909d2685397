-- the calls within a pool that this program runs: the pool of each, and what is made of it
use Rattle.std.specs.Prelude.{Bool, true, false, []}
use Rattle.st_units.specs.declared.cause.Cause.TheVariants.{OutOfMemory}
use Rattle.st_model.specs.declared.call.Call.{Call}
use Rattle.st_model.specs.declared.call.Call.TheVariants.{PoolReport, RenameFilesystem, SetFsLimit, SetMerge, SetOverprovisioning, SetSizeLimit}
use Rattle.st_model.specs.Answer.{refused}
use Rattle.st_model.specs.Lifted.{Doing}
use Rattle.st_model.specs.Look.{Text}
use Rattle.st_model.specs.steps.PoolReport.{pool_report}
use Rattle.st_model.specs.steps.RenameFilesystem.{rename_filesystem}
use Rattle.st_model.specs.steps.SetFsLimit.{set_fs_limit}
use Rattle.st_model.specs.steps.SetMerge.{set_merge}
use Rattle.st_model.specs.steps.SetOverprovisioning.{set_overprovisioning}
use Rattle.st_model.specs.steps.SetSizeLimit.{set_size_limit}

abbrev pub is_inside : Call → Bool
is_inside (PoolReport pool) = true
is_inside (RenameFilesystem pool name new) = true
is_inside (SetSizeLimit pool name limit) = true
is_inside (SetFsLimit pool limit) = true
is_inside (SetOverprovisioning pool value) = true
is_inside (SetMerge pool name value) = true
is_inside call = false

abbrev pub name_in : Call → Text
name_in (PoolReport pool) = pool
name_in (RenameFilesystem pool name new) = pool
name_in (SetSizeLimit pool name limit) = pool
name_in (SetFsLimit pool limit) = pool
name_in (SetOverprovisioning pool value) = pool
name_in (SetMerge pool name value) = pool
name_in call = []

abbrev pub doing_of : Call → Doing
doing_of (PoolReport pool) = pool_report
doing_of (RenameFilesystem pool name new) = rename_filesystem name new
doing_of (SetSizeLimit pool name limit) = set_size_limit name limit
doing_of (SetFsLimit pool limit) = set_fs_limit limit
doing_of (SetOverprovisioning pool value) = set_overprovisioning value
doing_of (SetMerge pool name value) = set_merge name value
doing_of call = λ p. (refused OutOfMemory, p)
