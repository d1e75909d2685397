-- DestroyPool: the pool is known no more, and its devices are free
use Rattle.std.specs.Prelude.{◌==◌, not, List, [], ◌∷◌, length, true, false, Option, Some, None}
use Rattle.st_units.specs.declared.cause.Cause.TheVariants.{NotEmpty}
use Rattle.st_model.specs.declared.reply.Given.TheVariants.{Changed}
use Rattle.st_model.specs.declared.reply.Identity.TheVariants.{Pool}
use Rattle.st_model.specs.declared.reply.Reply.{Reply}
use Rattle.st_model.specs.declared.state.EngineState.{EngineState}
use Rattle.st_model.specs.declared.state.PoolState.{PoolState}
use Rattle.st_model.specs.Answer.{accepted, refused_where, first_answer, unless_answered}
use Rattle.st_model.specs.Checks.{not_up, worn}
use Rattle.st_model.specs.Flight.{all_but}
use Rattle.st_model.specs.Look.{Text}
use Rattle.st_model.specs.Parts.{pool_at}

abbrev pub destroy_answers : PoolState → List (Option Reply)
destroy_answers p =
    not_up p p.mode
    ∷ refused_where (not (length p.filesystems == 0)) (NotEmpty (length p.filesystems))
    ∷ worn p
    ∷ []

abbrev pub destroy_found : EngineState → Option PoolState → Reply × EngineState
destroy_found s None = (accepted (Changed false None), s)
destroy_found s (Some p) =
    unless_answered (first_answer (destroy_answers p)) s
    (accepted (Changed true (Some (Pool p.serial))), record s { pools = all_but p.serial s.pools })

unfoldable pub destroy_pool : Text → EngineState → Reply × EngineState
destroy_pool name s = destroy_found s (pool_at name s.pools)
