-- PowerCycle: the rack loses its power and comes back, so that no pool is started
use Rattle.std.specs.Prelude.{true, map}
use Rattle.st_model.specs.declared.reply.Given.TheVariants.{Done}
use Rattle.st_model.specs.declared.reply.Reply.{Reply}
use Rattle.st_model.specs.declared.state.EngineState.{EngineState}
use Rattle.st_model.specs.Answer.{accepted}
use Rattle.st_model.specs.Checks.{halted}

unfoldable pub power_cycle : EngineState → Reply × EngineState
power_cycle s = (accepted (Done true), record s { pools = map halted s.pools })
