-- SnapshotFilesystem: a filesystem that reads as its origin does, and from then on goes its own way
use Rattle.std.specs.Prelude.{ℕ, ◌+◌, nat_lt, List, [], ◌∷◌, ◌++◌, length, Bool, true, false, Option, Some, None, if◌then◌else◌}
use Rattle.st_limits.specs.declared.TheConstants.{MAX_MAPPINGS}
use Rattle.st_units.specs.declared.cause.Cause.TheVariants.{MappingFull, NameInUse, TooManyFilesystems}
use Rattle.st_model.specs.declared.reply.Given.TheVariants.{Changed}
use Rattle.st_model.specs.declared.reply.Identity.TheVariants.{Filesystem}
use Rattle.st_model.specs.declared.reply.Reply.{Reply}
use Rattle.st_model.specs.declared.state.FsState.{FsState}
use Rattle.st_model.specs.declared.state.PoolState.{PoolState}
use Rattle.st_model.specs.Answer.{accepted, refused, refused_where, first_answer, unless_answered}
use Rattle.st_model.specs.Checks.{fs_at, on_fs, over_provision, sizes, worn}
use Rattle.st_model.specs.Look.{Text}
use Rattle.st_model.specs.Merged.{is_origin}
use Rattle.st_model.specs.Sums.{mappings}

-- the filesystem has this one as its origin
abbrev pub comes_from : Option FsState → FsState → Bool
comes_from None fs = false
comes_from (Some origin) fs = is_origin origin.row.serial fs.row.origin

-- a filesystem has the name already
abbrev pub named_answer : Option FsState → Option FsState → Option Reply
named_answer origin None = None
named_answer origin (Some fs) = if comes_from origin fs then Some (accepted (Changed false None)) else Some (refused NameInUse)

-- with size, limit and map of its origin
abbrev pub snapshot_of : FsState → Text → ℕ → FsState
snapshot_of origin name serial = record {
  row = record { serial = serial; name = name; size = origin.row.size; limit = origin.row.limit; origin = Some origin.row.serial; merge = false };
  map = origin.map;
}

abbrev pub with_snapshot : FsState → Text → PoolState → List FsState
with_snapshot origin name p = p.filesystems ++ snapshot_of origin name p.next_filesystem ∷ []

abbrev pub snapshot_answers : Text → FsState → PoolState → List (Option Reply)
snapshot_answers name origin p =
    refused_where (nat_lt p.filesystem_limit (length p.filesystems + 1)) TooManyFilesystems
    ∷ over_provision p (sizes (with_snapshot origin name p))
    ∷ refused_where (nat_lt MAX_MAPPINGS (mappings p + length origin.map)) (MappingFull (mappings p) (length origin.map))
    ∷ worn p
    ∷ []

abbrev pub take_snapshot : Text → FsState → PoolState → Reply × PoolState
take_snapshot name origin p =
    unless_answered (first_answer (snapshot_answers name origin p)) p (
      accepted (Changed true (Some (Filesystem p.serial p.next_filesystem))),
      record p { filesystems = with_snapshot origin name p; next_filesystem = p.next_filesystem + 1; commits = p.commits + 1 },
    )

unfoldable pub snapshot_filesystem : Text → Text → PoolState → Reply × PoolState
snapshot_filesystem origin name p =
    unless_answered (named_answer (fs_at origin p.filesystems) (fs_at name p.filesystems)) p (on_fs origin (take_snapshot name) p)
