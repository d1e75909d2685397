-- CreateFilesystems: new filesystems, all or none
use Rattle.std.specs.Prelude.{ℕ, ◌+◌, ◌==◌, nat_lt, List, [], ◌∷◌, ◌++◌, length, map, filter, find, Bool, true, false, not, ◌||◌, Option, Some, None, is_some, option_map, unwrap_or, bytes_eq, if◌then◌else◌}
use Rattle.st_limits.specs.declared.TheConstants.{DEFAULT_FS_SECTORS}
use Rattle.st_units.specs.declared.cause.Cause.{Cause}
use Rattle.st_units.specs.declared.cause.Cause.TheVariants.{BadSize, LimitBelowSize, TooManyFilesystems}
use Rattle.st_units.specs.declared.rows.FsSpec.{FsSpec}
use Rattle.st_model.specs.declared.reply.Given.TheVariants.{CreatedFilesystems}
use Rattle.st_model.specs.declared.reply.Identity.TheVariants.{Filesystem}
use Rattle.st_model.specs.declared.reply.NewFs.{NewFs}
use Rattle.st_model.specs.declared.reply.Reply.{Reply}
use Rattle.st_model.specs.declared.state.FsState.{FsState}
use Rattle.st_model.specs.declared.state.PoolState.{PoolState}
use Rattle.st_model.specs.Answer.{accepted, refused_by, refused_where, first_answer, unless_answered}
use Rattle.st_model.specs.Look.{Text}
use Rattle.st_model.specs.Checks.{fs_at, is_below, is_no_size, over_provision, sizes, worn}

-- each name once, at its first place
abbrev pub distinct_specs : List FsSpec → List FsSpec
distinct_specs [] = []
distinct_specs (spec ∷ specs) = spec ∷ filter (λ (other : FsSpec). not (bytes_eq spec.name other.name)) (distinct_specs specs)

-- those that aren't there yet
abbrev pub to_create : List FsSpec → PoolState → List FsSpec
to_create specs p = filter (λ (spec : FsSpec). not (is_some (fs_at spec.name p.filesystems))) (distinct_specs specs)

abbrev pub size_of : FsSpec → ℕ
size_of spec = unwrap_or spec.size DEFAULT_FS_SECTORS

abbrev pub first_named : (FsSpec → Bool) → (Text → Cause) → List FsSpec → Option Reply
first_named test cause specs = refused_by (option_map (λ (spec : FsSpec). cause spec.name) (find test specs))

abbrev pub new_filesystems : ℕ → List FsSpec → List FsState
new_filesystems serial [] = []
new_filesystems serial (spec ∷ specs) =
    record { row = record { serial = serial; name = spec.name; size = size_of spec; limit = spec.limit; origin = None; merge = false }; map = [] }
    ∷ new_filesystems (serial + 1) specs

abbrev pub fs_answers : List FsSpec → PoolState → List (Option Reply)
fs_answers new p =
    first_named (λ (spec : FsSpec). is_no_size spec.size || is_no_size spec.limit) BadSize new
    ∷ first_named (λ (spec : FsSpec). is_below spec.limit (size_of spec)) LimitBelowSize new
    ∷ refused_where (nat_lt p.filesystem_limit (length p.filesystems + length new)) TooManyFilesystems
    ∷ over_provision p (sizes (p.filesystems ++ new_filesystems p.next_filesystem new))
    ∷ (if length new == 0 then Some (accepted (CreatedFilesystems false [])) else None)
    ∷ worn p
    ∷ []

abbrev pub new_fs : ℕ → FsState → NewFs
new_fs pool fs = record { name = fs.row.name; identity = Filesystem pool fs.row.serial }

abbrev pub create_new : List FsSpec → PoolState → Reply × PoolState
create_new new p =
    unless_answered (first_answer (fs_answers new p)) p (
      accepted (CreatedFilesystems true (map (new_fs p.serial) (new_filesystems p.next_filesystem new))),
      record p {
        filesystems = p.filesystems ++ new_filesystems p.next_filesystem new;
        next_filesystem = p.next_filesystem + length new;
        commits = p.commits + 1;
      },
    )

unfoldable pub create_filesystems : List FsSpec → PoolState → Reply × PoolState
create_filesystems specs p = create_new (to_create specs p) p
