-- RenamePool: another name for a pool
use Rattle.std.specs.Prelude.{◌+◌, List, [], ◌∷◌, true, false, Option, Some, None, is_some, bytes_eq, if◌then◌else◌}
use Rattle.st_units.specs.declared.cause.Cause.TheVariants.{NoSuchPool, NameInUse}
use Rattle.st_model.specs.declared.reply.Given.TheVariants.{Changed}
use Rattle.st_model.specs.declared.reply.Identity.TheVariants.{Pool}
use Rattle.st_model.specs.declared.reply.Reply.{Reply}
use Rattle.st_model.specs.declared.state.EngineState.{EngineState}
use Rattle.st_model.specs.declared.state.PoolState.{PoolState}
use Rattle.st_model.specs.Answer.{accepted, refused, refused_where, first_answer, unless_answered}
use Rattle.st_model.specs.Look.{Text, holder}
use Rattle.st_model.specs.Parts.{pool_at}
use Rattle.st_model.specs.Checks.{not_up, worn}
use Rattle.st_model.specs.Lifted.{changed}

abbrev pub renamed : Text → PoolState → PoolState
renamed new p = record p { name = new; commits = p.commits + 1 }

abbrev pub rename_answers : EngineState → Text → Text → PoolState → List (Option Reply)
rename_answers s name new p =
    (if bytes_eq name new then Some (accepted (Changed false None)) else None)
    ∷ refused_where (is_some (holder new s.pools)) NameInUse
    ∷ not_up p p.mode
    ∷ worn p
    ∷ []

abbrev pub rename_found : EngineState → Text → Text → Option PoolState → Reply × EngineState
rename_found s name new None = (refused NoSuchPool, s)
rename_found s name new (Some p) =
    unless_answered (first_answer (rename_answers s name new p)) s
    (accepted (Changed true (Some (Pool p.serial))), changed name (renamed new) s)

unfoldable pub rename_pool : Text → Text → EngineState → Reply × EngineState
rename_pool name new s = rename_found s name new (pool_at name s.pools)
