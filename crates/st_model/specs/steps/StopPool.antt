-- StopPool: the pool is started no more
use Rattle.std.specs.Prelude.{true, false, Option, Some, None, map, if◌then◌else◌}
use Rattle.st_units.specs.declared.cause.Cause.TheVariants.{NoSuchPool}
use Rattle.st_model.specs.declared.reply.Given.TheVariants.{Changed}
use Rattle.st_model.specs.declared.reply.Identity.TheVariants.{Pool}
use Rattle.st_model.specs.declared.reply.Reply.{Reply}
use Rattle.st_model.specs.declared.state.EngineState.{EngineState}
use Rattle.st_model.specs.declared.state.PoolState.{PoolState}
use Rattle.st_model.specs.Answer.{accepted, refused}
use Rattle.st_model.specs.Look.{Text, is_called, is_started}
use Rattle.st_model.specs.Parts.{pool_at}
use Rattle.st_model.specs.Checks.{halted}

abbrev pub stop_found : EngineState → Text → Option PoolState → Reply × EngineState
stop_found s name None = (refused NoSuchPool, s)
stop_found s name (Some p) =
    if is_started p.mode
    then (accepted (Changed true (Some (Pool p.serial))), record s { pools = map (λ q. if is_called name q then halted q else q) s.pools })
    else (accepted (Changed false None), s)

unfoldable pub stop_pool : Text → EngineState → Reply × EngineState
stop_pool name s = stop_found s name (pool_at name s.pools)
