-- SetSizeLimit: how large a filesystem may grow
use Rattle.std.specs.Prelude.{ℕ, ◌==◌, List, [], ◌∷◌, Bool, true, false, Option, Some, None, if◌then◌else◌}
use Rattle.st_units.specs.declared.cause.Cause.TheVariants.{BadSize, LimitBelowSize}
use Rattle.st_units.specs.declared.rows.FsRow.{FsRow}
use Rattle.st_model.specs.declared.reply.Given.TheVariants.{Done}
use Rattle.st_model.specs.declared.reply.Reply.{Reply}
use Rattle.st_model.specs.declared.state.FsState.{FsState}
use Rattle.st_model.specs.declared.state.PoolState.{PoolState}
use Rattle.st_model.specs.Answer.{accepted, refused_where, first_answer, unless_answered}
use Rattle.st_model.specs.Checks.{is_below, is_no_size, on_fs, rows_changed, worn}
use Rattle.st_model.specs.Look.{Text}

abbrev pub same_limit : Option ℕ → Option ℕ → Bool
same_limit None None = true
same_limit None (Some b) = false
same_limit (Some a) None = false
same_limit (Some a) (Some b) = a == b

abbrev pub size_limit_answers : Option ℕ → FsState → PoolState → List (Option Reply)
size_limit_answers limit fs p =
    refused_where (is_no_size limit) (BadSize fs.row.name)
    ∷ (if same_limit limit fs.row.limit then Some (accepted (Done false)) else None)
    ∷ refused_where (is_below limit fs.row.size) (LimitBelowSize fs.row.name)
    ∷ worn p
    ∷ []

abbrev pub limited : Option ℕ → FsRow → FsRow
limited limit row = record row { limit = limit }

abbrev pub limit_fs : Option ℕ → FsState → PoolState → Reply × PoolState
limit_fs limit fs p =
    unless_answered (first_answer (size_limit_answers limit fs p)) p
    (accepted (Done true), rows_changed (limited limit) fs.row.serial p)

unfoldable pub set_size_limit : Text → Option ℕ → PoolState → Reply × PoolState
set_size_limit name limit = on_fs name (limit_fs limit)
