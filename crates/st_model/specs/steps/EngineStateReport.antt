-- EngineStateReport: what the engine knows, with nothing changed
use Rattle.std.specs.Prelude.{[]}
use Rattle.st_model.specs.declared.reply.Given.TheVariants.{Engine}
use Rattle.st_model.specs.declared.reply.Reply.{Reply}
use Rattle.st_model.specs.declared.state.EngineState.{EngineState}
use Rattle.st_model.specs.Answer.{accepted}
use Rattle.st_model.specs.Shown.{table_info, infos_with, started_pools}

unfoldable pub report_plain : EngineState → Reply × EngineState
report_plain s = (accepted (Engine (table_info s) (infos_with [] (started_pools s.pools))), s)
