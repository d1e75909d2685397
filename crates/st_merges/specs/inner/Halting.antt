-- how a pool stands that isn't up, once the power is gone or a stop is asked for
use Rattle.st_model.specs.declared.state.PoolMode.{PoolMode}
use Rattle.st_model.specs.declared.state.PoolMode.TheVariants.{Up, Down, Stopped, Unsettled, Incomplete}
use Rattle.st_model.specs.declared.state.PoolState.{PoolState}

-- a pool that is down has its call in flight; any other stays as it is
abbrev pub halted_mode : PoolMode → PoolMode
halted_mode Up = Up
halted_mode (Down call) = Unsettled call
halted_mode Stopped = Stopped
halted_mode (Unsettled call) = Unsettled call
halted_mode (Incomplete path) = Incomplete path

abbrev pub in_mode : PoolMode → PoolState → PoolState
in_mode mode p = record p { mode = mode }
