-- the calls on filesystems and settings of a pool, by their members in the order in which they are looked at
use Rattle.std.specs.Prelude.{List, Result, Ok, codes}
use Rattle.serde_json.specs.Data.{Data}
use Rattle.st_units.specs.declared.cause.Member.TheVariants as members
use Rattle.st_units.specs.declared.rows.FsSpec.{FsSpec}
use Rattle.st_model.specs.declared.call.Call.{Call}
use Rattle.st_model.specs.declared.call.Call.TheVariants.{CreateFilesystems, DestroyFilesystems, SnapshotFilesystem, RenameFilesystem, SetSizeLimit, SetFsLimit, SetOverprovisioning, SetMerge}
use Rattle.st_calls.specs.declared.fault.LineFault.{LineFault}
use Rattle.st_calls.specs.Gives.{◌>>=◌}
use Rattle.st_calls.specs.Members.{each, items_at, name_at, names_at, number_at, optional_number_at, flag_at}
use Rattle.st_calls.specs.PoolForms.{pool_at, own_name_at}

-- a filesystem to be created: name, size, limit; what is faulty in it is told of the list
unfoldable pub fs_spec : Data → Result FsSpec LineFault
fs_spec d =
    name_at members.Filesystems (codes "name") d >>= λ name.
    optional_number_at members.Filesystems (codes "size") d >>= λ size.
    optional_number_at members.Filesystems (codes "limit") d >>= λ limit.
    Ok (record { name = name; size = size; limit = limit })

unfoldable pub fs_specs_at : Data → Result (List FsSpec) LineFault
fs_specs_at d = items_at members.Filesystems (codes "filesystems") d >>= each fs_spec

-- CreateFilesystems: pool, filesystems
unfoldable pub create_filesystems : Data → Result Call LineFault
create_filesystems d = pool_at d >>= λ pool. fs_specs_at d >>= λ filesystems. Ok (CreateFilesystems pool filesystems)

-- DestroyFilesystems: pool, names
unfoldable pub destroy_filesystems : Data → Result Call LineFault
destroy_filesystems d = pool_at d >>= λ pool. names_at members.Names (codes "names") d >>= λ names. Ok (DestroyFilesystems pool names)

-- SnapshotFilesystem: pool, origin, name
unfoldable pub snapshot_filesystem : Data → Result Call LineFault
snapshot_filesystem d =
    pool_at d >>= λ pool.
    name_at members.Origin (codes "origin") d >>= λ origin.
    own_name_at d >>= λ name.
    Ok (SnapshotFilesystem pool origin name)

-- RenameFilesystem: pool, name, new
unfoldable pub rename_filesystem : Data → Result Call LineFault
rename_filesystem d =
    pool_at d >>= λ pool.
    own_name_at d >>= λ name.
    name_at members.New (codes "new") d >>= λ new.
    Ok (RenameFilesystem pool name new)

-- SetSizeLimit: pool, name, limit
unfoldable pub set_size_limit : Data → Result Call LineFault
set_size_limit d =
    pool_at d >>= λ pool.
    own_name_at d >>= λ name.
    optional_number_at members.Limit (codes "limit") d >>= λ limit.
    Ok (SetSizeLimit pool name limit)

-- SetFsLimit: pool, limit
unfoldable pub set_fs_limit : Data → Result Call LineFault
set_fs_limit d = pool_at d >>= λ pool. number_at members.Limit (codes "limit") d >>= λ limit. Ok (SetFsLimit pool limit)

-- SetOverprovisioning: pool, value
unfoldable pub set_overprovisioning : Data → Result Call LineFault
set_overprovisioning d = pool_at d >>= λ pool. flag_at members.Value (codes "value") d >>= λ value. Ok (SetOverprovisioning pool value)

-- SetMerge: pool, name, value
unfoldable pub set_merge : Data → Result Call LineFault
set_merge d =
    pool_at d >>= λ pool.
    own_name_at d >>= λ name.
    flag_at members.Value (codes "value") d >>= λ value.
    Ok (SetMerge pool name value)
