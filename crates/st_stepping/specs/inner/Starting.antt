-- the answer of a start that changes nothing
use Rattle.std.specs.Prelude.{false, Option, Some, None}
use Rattle.st_units.specs.declared.cause.Cause.TheVariants.{Maintenance, MissingDevice, OutOfMemory}
use Rattle.st_model.specs.declared.reply.Given.TheVariants.{Changed}
use Rattle.st_model.specs.declared.reply.Reply.{Reply}
use Rattle.st_model.specs.declared.state.PoolMode.{PoolMode}
use Rattle.st_model.specs.declared.state.PoolMode.TheVariants.{Up, Down, Stopped, Unsettled, Incomplete}
use Rattle.st_model.specs.declared.state.PoolState.{PoolState}
use Rattle.st_model.specs.Answer.{accepted, refused}

abbrev pub start_answer : PoolState → PoolMode → Option Reply
start_answer p Up = Some (accepted (Changed false None))
start_answer p (Down call) = Some (refused (Maintenance p.name))
start_answer p Stopped = None
start_answer p (Unsettled call) = Some (refused OutOfMemory)
start_answer p (Incomplete path) = Some (refused (MissingDevice path))
