-- SetFsLimit: how many filesystems the pool may have
use Rattle.std.specs.Prelude.{ℕ, ◌+◌, ◌==◌, nat_lt, List, [], ◌∷◌, true, false, Option, Some, None, if◌then◌else◌}
use Rattle.st_limits.specs.declared.TheConstants.{MAX_FILESYSTEMS}
use Rattle.st_units.specs.declared.cause.Cause.TheVariants.{BadSize, LimitLower}
use Rattle.st_model.specs.declared.reply.Given.TheVariants.{Done}
use Rattle.st_model.specs.declared.reply.Reply.{Reply}
use Rattle.st_model.specs.declared.state.PoolState.{PoolState}
use Rattle.st_model.specs.Answer.{accepted, refused_where, first_answer, unless_answered}
use Rattle.st_model.specs.Checks.{worn}

abbrev pub limit_answers : ℕ → PoolState → List (Option Reply)
limit_answers limit p =
    refused_where (nat_lt MAX_FILESYSTEMS limit) (BadSize p.name)
    ∷ (if limit == p.filesystem_limit then Some (accepted (Done false)) else None)
    ∷ refused_where (nat_lt limit p.filesystem_limit) LimitLower
    ∷ worn p
    ∷ []

unfoldable pub set_fs_limit : ℕ → PoolState → Reply × PoolState
set_fs_limit limit p =
    unless_answered (first_answer (limit_answers limit p)) p
    (accepted (Done true), record p { filesystem_limit = limit; commits = p.commits + 1 })
