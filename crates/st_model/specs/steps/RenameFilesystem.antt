-- RenameFilesystem: another name for a filesystem
use Rattle.std.specs.Prelude.{List, [], ◌∷◌, true, false, Option, Some, None, is_some, bytes_eq, if◌then◌else◌}
use Rattle.st_units.specs.declared.cause.Cause.TheVariants.{NameInUse}
use Rattle.st_units.specs.declared.rows.FsRow.{FsRow}
use Rattle.st_model.specs.declared.reply.Given.TheVariants.{Changed}
use Rattle.st_model.specs.declared.reply.Identity.TheVariants.{Filesystem}
use Rattle.st_model.specs.declared.reply.Reply.{Reply}
use Rattle.st_model.specs.declared.state.FsState.{FsState}
use Rattle.st_model.specs.declared.state.PoolState.{PoolState}
use Rattle.st_model.specs.Answer.{accepted, refused_where, first_answer, unless_answered}
use Rattle.st_model.specs.Checks.{fs_at, on_fs, rows_changed, worn}
use Rattle.st_model.specs.Look.{Text}

abbrev pub rename_fs_answers : Text → FsState → PoolState → List (Option Reply)
rename_fs_answers new fs p =
    (if bytes_eq fs.row.name new then Some (accepted (Changed false None)) else None)
    ∷ refused_where (is_some (fs_at new p.filesystems)) NameInUse
    ∷ worn p
    ∷ []

abbrev pub named : Text → FsRow → FsRow
named new row = record row { name = new }

abbrev pub rename_fs : Text → FsState → PoolState → Reply × PoolState
rename_fs new fs p =
    unless_answered (first_answer (rename_fs_answers new fs p)) p
    (accepted (Changed true (Some (Filesystem p.serial fs.row.serial))), rows_changed (named new) fs.row.serial p)

unfoldable pub rename_filesystem : Text → Text → PoolState → Reply × PoolState
rename_filesystem name new = on_fs name (rename_fs new)
