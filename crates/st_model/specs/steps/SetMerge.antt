-- SetMerge: a snapshot is marked to replace its origin at the pool's next start, or the mark is taken away
use Rattle.std.specs.Prelude.{ℕ, List, [], ◌∷◌, Bool, true, false, ◌&&◌, ◌||◌, find, Option, Some, None, is_none, option_map, if◌then◌else◌}
use Rattle.st_units.specs.declared.cause.Cause.TheVariants.{NoOrigin, MergeConflict}
use Rattle.st_units.specs.declared.rows.FsRow.{FsRow}
use Rattle.st_model.specs.declared.reply.Given.TheVariants.{Done}
use Rattle.st_model.specs.declared.reply.Reply.{Reply}
use Rattle.st_model.specs.declared.state.FsState.{FsState}
use Rattle.st_model.specs.declared.state.PoolState.{PoolState}
use Rattle.st_model.specs.Answer.{accepted, refused_by, refused_where, first_answer, unless_answered}
use Rattle.st_model.specs.Checks.{on_fs, rows_changed, worn}
use Rattle.st_model.specs.Look.{Text}
use Rattle.st_model.specs.Merged.{is_origin}
use Rattle.st_model.specs.steps.SetOverprovisioning.{same_truth}

abbrev pub share_origin : Option ℕ → Option ℕ → Bool
share_origin None b = false
share_origin (Some a) b = is_origin a b

-- a marked filesystem that has the same origin, or is the origin, or has this one as its origin
abbrev pub conflicts : FsRow → FsState → Bool
conflicts row other =
    other.row.merge && (share_origin row.origin other.row.origin || (is_origin other.row.serial row.origin || is_origin row.serial other.row.origin))

abbrev pub merge_answers : Bool → FsState → PoolState → List (Option Reply)
merge_answers value fs p =
    (if same_truth value fs.row.merge then Some (accepted (Done false)) else None)
    ∷ refused_where (value && is_none fs.row.origin) NoOrigin
    ∷ (if value then refused_by (option_map (λ (other : FsState). MergeConflict other.row.name) (find (conflicts fs.row) p.filesystems)) else None)
    ∷ worn p
    ∷ []

abbrev pub with_mark : Bool → FsRow → FsRow
with_mark value row = record row { merge = value }

abbrev pub mark_fs : Bool → FsState → PoolState → Reply × PoolState
mark_fs value fs p =
    unless_answered (first_answer (merge_answers value fs p)) p
    (accepted (Done true), rows_changed (with_mark value) fs.row.serial p)

unfoldable pub set_merge : Text → Bool → PoolState → Reply × PoolState
set_merge name value = on_fs name (mark_fs value)
