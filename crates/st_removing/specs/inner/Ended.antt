-- who the filesystems are that go, and the answers that change nothing
use Rattle.std.specs.Prelude.{ℕ, ◌==◌, List, [], ◌∷◌, length, map, filter_map, false, Option, Some, None, if◌then◌else◌}
use Rattle.st_model.specs.declared.reply.Given.TheVariants.{DestroyedFilesystems}
use Rattle.st_model.specs.declared.reply.Identity.{Identity}
use Rattle.st_model.specs.declared.reply.Reply.{Reply}
use Rattle.st_model.specs.declared.state.FsState.{FsState}
use Rattle.st_model.specs.declared.state.PoolState.{PoolState}
use Rattle.st_model.specs.Answer.{accepted}
use Rattle.st_model.specs.Checks.{fs_at, worn}
use Rattle.st_model.specs.Look.{Text}
use Rattle.st_model.specs.steps.DestroyFilesystems.{fs_identity}

abbrev pub ended : ℕ → List FsState → List Text → List Identity
ended pool filesystems names = map (fs_identity pool) (filter_map (λ name. fs_at name filesystems) names)

abbrev pub ended_answers : List Identity → PoolState → List (Option Reply)
ended_answers gone p =
    (if length gone == 0 then Some (accepted (DestroyedFilesystems false [])) else None)
    ∷ worn p
    ∷ []
