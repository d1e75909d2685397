-- checks that several calls share, and how a pool stands when it is halted or started
use Rattle.std.specs.Prelude.{ℕ, ◌==◌, nat_lt, List, [], length, find, Option, Some, None, option_map, unwrap_or, map, if◌then◌else◌, Bool, not, sum_by, ◌/◌, ◌+◌, ◌&&◌, false, ◌%◌, nat_le}
use Rattle.st_limits.specs.declared.TheConstants.{BLOCK_SECTORS, MAX_COMMITS, MAX_FS_SECTORS, MIN_DEVICE_SECTORS}
use Rattle.st_units.specs.declared.cause.Cause.{Cause}
use Rattle.st_units.specs.declared.cause.Cause.TheVariants.{EmptyDevices, NoSuchDevice, DeviceInUse, DeviceTooSmall, NoSuchFilesystem, OverProvision, PoolStopped, Maintenance, Worn}
use Rattle.st_units.specs.declared.rows.DevRow.{DevRow}
use Rattle.st_units.specs.declared.rows.FsRow.{FsRow}
use Rattle.st_units.specs.declared.rows.Tier.{Tier}
use Rattle.st_model.specs.declared.call.Call.{Call}
use Rattle.st_model.specs.declared.reply.Reply.{Reply}
use Rattle.st_model.specs.declared.state.CacheState.{CacheState}
use Rattle.st_model.specs.declared.state.FsState.{FsState}
use Rattle.st_model.specs.declared.state.PoolMode.{PoolMode}
use Rattle.st_model.specs.declared.state.PoolMode.TheVariants.{Up, Down, Stopped, Unsettled, Incomplete}
use Rattle.st_model.specs.declared.state.PoolState.{PoolState}
use Rattle.st_model.specs.Answer.{refused, refused_by, refused_where}
use Rattle.st_model.specs.Look.{Text, row_of, first_absent, first_used, pool_using}
use Rattle.st_model.specs.Merged.{merged}
use Rattle.st_model.specs.Sums.{room}
use Rattle.std.specs.Str.{bytes_eq}

-- of devices: none is given, or the rack lacks the first of these
abbrev pub no_devices : List Text → Option Reply
no_devices paths = refused_where (length paths == 0) EmptyDevices

abbrev pub absent_device : List Text → List DevRow → Option Reply
absent_device paths rows = refused_by (option_map NoSuchDevice (first_absent paths rows))

abbrev pub in_use : List PoolState → Option Text → Option Cause
in_use pools None = None
in_use pools (Some path) = option_map (λ (pool : PoolState). DeviceInUse path pool.name) (pool_using path pools)

-- the first path that a pool uses, and that pool
abbrev pub used_device : List Text → List PoolState → Option Reply
used_device paths pools = refused_by (in_use pools (first_used paths pools))

abbrev pub sectors_of : Text → List DevRow → ℕ
sectors_of path rows = unwrap_or (option_map (λ (row : DevRow). row.sectors) (row_of path rows)) 0

-- a row of this tier for each of the paths, with the sectors that the rack gives it
abbrev pub rows_on : Tier → List DevRow → List Text → List DevRow
rows_on tier rack paths = map (λ path. record { path = path; tier = tier; sectors = sectors_of path rack }) paths

abbrev pub first_small : List Text → List DevRow → Option Text
first_small paths rows = find (λ path. nat_lt (sectors_of path rows) MIN_DEVICE_SECTORS) paths

abbrev pub small_device : List Text → List DevRow → Option Reply
small_device paths rows = refused_by (option_map DeviceTooSmall (first_small paths rows))

-- the pool isn't up; where no pool has the name, NoSuchPool comes before
abbrev pub not_up : PoolState → PoolMode → Option Reply
not_up p Up = None
not_up p (Down call) = Some (refused (Maintenance p.name))
not_up p Stopped = Some (refused PoolStopped)
not_up p (Unsettled call) = Some (refused PoolStopped)
not_up p (Incomplete path) = Some (refused PoolStopped)

-- the pool has made as many commits as it can
abbrev pub worn : PoolState → Option Reply
worn p = refused_where (p.commits == MAX_COMMITS) Worn

-- a size or a limit that a filesystem may have
abbrev pub is_size : ℕ → Bool
is_size n = nat_lt 0 n && (n % BLOCK_SECTORS == 0) && nat_le n MAX_FS_SECTORS

abbrev pub is_no_size : Option ℕ → Bool
is_no_size None = false
is_no_size (Some n) = not (is_size n)

abbrev pub is_below : Option ℕ → ℕ → Bool
is_below None size = false
is_below (Some limit) size = nat_lt limit size

-- the sizes of all filesystems, in blocks
abbrev pub sizes : List FsState → ℕ
sizes filesystems = sum_by (λ (fs : FsState). fs.row.size / BLOCK_SECTORS) filesystems

-- overprovisioning is off, and the sum of all sizes would be above room
abbrev pub over_provision : PoolState → ℕ → Option Reply
over_provision p sum = refused_where (not p.overprovisioning && nat_lt (room p) sum) (OverProvision sum (room p))

abbrev pub fs_at : Text → List FsState → Option FsState
fs_at name = find (λ (fs : FsState). bytes_eq fs.row.name name)

abbrev pub in_fs : (FsState → PoolState → Reply × PoolState) → PoolState → Option FsState → Reply × PoolState
in_fs f p None = (refused NoSuchFilesystem, p)
in_fs f p (Some fs) = f fs p

-- NoSuchFilesystem, else what is done with the filesystem of this name
abbrev pub on_fs : Text → (FsState → PoolState → Reply × PoolState) → PoolState → Reply × PoolState
on_fs name f p = in_fs f p (fs_at name p.filesystems)

-- the filesystem of this serial with another row, and a commit more
abbrev pub with_row : (FsRow → FsRow) → ℕ → FsState → FsState
with_row change serial fs = if fs.row.serial == serial then record fs { row = change fs.row } else fs

abbrev pub rows_changed : (FsRow → FsRow) → ℕ → PoolState → PoolState
rows_changed change serial p = record p { filesystems = map (with_row change serial) p.filesystems; commits = p.commits + 1 }

abbrev pub cold : Option CacheState → Option CacheState
cold None = None
cold (Some cache) = Some (record cache { cells = []; hits = 0; misses = 0 })

-- the pool in this mode, its cache empty
abbrev pub cooled : PoolMode → PoolState → PoolState
cooled mode p = record p { mode = mode; cache = cold p.cache }

-- the write failed in this call
abbrev pub down : Call → PoolState → PoolState
down call p = cooled (Down call) p

-- a stop or a power cut
abbrev pub halted_from : PoolState → PoolMode → PoolState
halted_from p Up = cooled Stopped (merged p)
halted_from p (Down call) = record p { mode = Unsettled call }
halted_from p Stopped = p
halted_from p (Unsettled call) = p
halted_from p (Incomplete path) = p

abbrev pub halted : PoolState → PoolState
halted p = halted_from p p.mode

-- a start that found the pool so
abbrev pub settled : PoolState → PoolState
settled p = cooled Up (merged p)
