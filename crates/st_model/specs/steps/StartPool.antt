-- StartPool: a pool is started; what a start finds of a call in flight is told in Found
use Rattle.std.specs.Prelude.{ℕ, ◌+◌, ◌*◌, ◌^◌, ◌==◌, Bool, true, false, Option, Some, None, map, find, if◌then◌else◌}
use Rattle.st_units.specs.declared.cause.Cause.TheVariants.{NoSuchPool, Maintenance, MissingDevice}
use Rattle.st_model.specs.declared.call.PoolId.{PoolId}
use Rattle.st_model.specs.declared.call.PoolId.TheVariants.{ByName, ByUuid}
use Rattle.st_model.specs.declared.reply.Given.TheVariants.{Changed}
use Rattle.st_model.specs.declared.reply.Identity.TheVariants.{Pool}
use Rattle.st_model.specs.declared.reply.Reply.{Reply}
use Rattle.st_model.specs.declared.state.EngineState.{EngineState}
use Rattle.st_model.specs.declared.state.PoolMode.{PoolMode}
use Rattle.st_model.specs.declared.state.PoolMode.TheVariants.{Up, Down, Stopped, Unsettled, Incomplete}
use Rattle.st_model.specs.declared.state.PoolState.{PoolState}
use Rattle.st_model.specs.Answer.{accepted, refused}
use Rattle.st_model.specs.Look.{is_called}
use Rattle.st_model.specs.Checks.{cooled}
use Rattle.st_model.specs.Local.{Outcome}

abbrev pub is_meant : PoolId → PoolState → Bool
is_meant (ByName name) p = is_called name p
is_meant (ByUuid uuid) p = uuid == p.serial * 2 ^ 64 + 2 ^ 56

abbrev pub pool_meant : PoolId → EngineState → Option PoolState
pool_meant id s = find (is_meant id) s.pools

-- the state with this pool in place of the one that has its serial
abbrev pub with_serial : ℕ → PoolState → EngineState → EngineState
with_serial serial q s = record s { pools = map (λ p. if p.serial == serial then q else p) s.pools }

abbrev pub started_reply : PoolState → Reply
started_reply p = accepted (Changed true (Some (Pool p.serial)))

-- none where a call is in flight: then the start finds something
abbrev pub start_in : EngineState → PoolState → PoolMode → Outcome
start_in s p Up = Some (accepted (Changed false None), s)
start_in s p (Down call) = Some (refused (Maintenance p.name), s)
start_in s p Stopped = Some (started_reply p, with_serial p.serial (cooled Up p) s)
start_in s p (Unsettled call) = None
start_in s p (Incomplete path) = Some (refused (MissingDevice path), s)

abbrev pub start_found : EngineState → Option PoolState → Outcome
start_found s None = Some (refused NoSuchPool, s)
start_found s (Some p) = start_in s p p.mode

unfoldable pub start_pool : PoolId → EngineState → Outcome
start_pool id s = start_found s (pool_meant id s)
