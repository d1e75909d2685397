-- DestroyFilesystems: those that are there go, and what had one of them as origin takes the next that stays
use Rattle.std.specs.Prelude.{ℕ, ◌+◌, ◌==◌, List, [], ◌∷◌, length, map, filter, filter_map, Bool, true, false, not, ◌&&◌, Option, Some, None, if◌then◌else◌}
use Rattle.std.specs.List.{list_any}
use Rattle.st_model.specs.declared.reply.Given.TheVariants.{DestroyedFilesystems}
use Rattle.st_model.specs.declared.reply.Identity.{Identity}
use Rattle.st_model.specs.declared.reply.Identity.TheVariants.{Filesystem}
use Rattle.st_model.specs.declared.reply.Reply.{Reply}
use Rattle.st_model.specs.declared.state.FsState.{FsState}
use Rattle.st_model.specs.declared.state.PoolState.{PoolState}
use Rattle.st_model.specs.Answer.{accepted, first_answer, unless_answered}
use Rattle.st_model.specs.Checks.{fs_at, worn}
use Rattle.st_model.specs.Look.{Text, distinct, has_path}
use Rattle.st_model.specs.Merged.{is_origin, with_filesystems}

-- those of the names that are there, each once, in the list's order
abbrev pub to_destroy : List Text → PoolState → List FsState
to_destroy names p = filter_map (λ name. fs_at name p.filesystems) (distinct names)

abbrev pub goes : List Text → FsState → Bool
goes names fs = has_path fs.row.name names

-- the origin is a filesystem that goes
abbrev pub origin_goes : List Text → List FsState → Option ℕ → Bool
origin_goes names filesystems origin = list_any (λ (fs : FsState). goes names fs && is_origin fs.row.serial origin) filesystems

-- one that goes hands its own origin on to those that had it as theirs
abbrev pub handed_on : List Text → FsState → Option ℕ → Option ℕ
handed_on names fs origin = if goes names fs && is_origin fs.row.serial origin then fs.row.origin else origin

-- The first filesystem that stays on the line of origins, from this origin on, or none. An origin is older than what
-- has it, so that the line is followed from the youngest filesystem, which is the last, to the oldest.
abbrev pub next_on_line : List Text → List FsState → Option ℕ → Option ℕ
next_on_line names [] origin = origin
next_on_line names (fs ∷ younger) origin = handed_on names fs (next_on_line names younger origin)

-- a filesystem that stays; where its origin goes, it takes the next on the line, and its mark is cleared
abbrev pub left_by : List Text → List FsState → FsState → FsState
left_by names filesystems fs =
    if origin_goes names filesystems fs.row.origin
    then record fs { row = record fs.row { origin = next_on_line names filesystems fs.row.origin; merge = false } }
    else fs

-- the filesystems that stay, as they are then
abbrev pub remaining : List Text → List FsState → List FsState
remaining names filesystems = map (left_by names filesystems) (filter (λ (fs : FsState). not (goes names fs)) filesystems)

abbrev pub destroy_fs_answers : List FsState → PoolState → List (Option Reply)
destroy_fs_answers gone p =
    (if length gone == 0 then Some (accepted (DestroyedFilesystems false [])) else None)
    ∷ worn p
    ∷ []

abbrev pub fs_identity : ℕ → FsState → Identity
fs_identity pool fs = Filesystem pool fs.row.serial

-- the pool without these; cells that are mapped no more go, also from the cache
abbrev pub without_filesystems : List Text → PoolState → PoolState
without_filesystems names p = record (with_filesystems (remaining names p.filesystems) p) { commits = p.commits + 1 }

unfoldable pub destroy_filesystems : List Text → PoolState → Reply × PoolState
destroy_filesystems names p =
    unless_answered (first_answer (destroy_fs_answers (to_destroy names p) p)) p
    (accepted (DestroyedFilesystems true (map (fs_identity p.serial) (to_destroy names p))), without_filesystems names p)
