-- Which pool a start means, as the table tells it.
use Rattle.std.specs.Prelude.{◌≡◌, ℕ, ◌/◌, ◌%◌, ◌^◌, ◌==◌, ◌&&◌, nat_le, true, List, Option, Some, None, option_and_then, if◌then◌else◌}
use Rattle.st_limits.specs.declared.TheConstants.{MAX_POOL_SERIAL}
use Rattle.st_model.specs.declared.call.PoolId.{PoolId}
use Rattle.st_model.specs.declared.call.PoolId.TheVariants.{ByName, ByUuid}
use Rattle.st_model.specs.declared.state.EngineState.{EngineState}
use Rattle.st_model.specs.declared.state.PoolMode.TheVariants as modes
use Rattle.st_model.specs.declared.state.PoolState.{PoolState}
use Rattle.st_model.specs.Look.{Text, is_started}
use Rattle.st_model.specs.Step.{can_start}
use Rattle.st_model.specs.steps.StartPool.{pool_meant}
use Rattle.st_table.specs.declared.halted.HaltedInfo.{HaltedInfo}
use Rattle.st_table.specs.declared.halted.HaltedMode.{HaltedMode}
use Rattle.st_table.specs.declared.halted.HaltedMode.TheVariants as halted
use Rattle.st_table.specs.Table.{TablePool, knows, named}
use Rattle.st_meant.specs.declared.meant.Meant.{Meant}
use Rattle.st_meant.specs.declared.meant.Meant.TheVariants.{Unknown, Started, Lacking, Halted}

-- So the pool that is meant stands in the state: none, or one that is started, or lacks a device, or can be started.
abbrev pub IsMeant : EngineState → PoolId → Meant → Type 0
IsMeant s id Unknown = pool_meant id s ≡ None
IsMeant s id (Started name) = (p : PoolState) × (pool_meant id s ≡ Some p) × (p.name ≡ name) × (is_started p.mode ≡ true)
IsMeant s id (Lacking path) = (p : PoolState) × (pool_meant id s ≡ Some p) × (p.mode ≡ modes.Incomplete path)
IsMeant s id (Halted name) = (p : PoolState) × (pool_meant id s ≡ Some p) × (p.name ≡ name) × (can_start p.mode ≡ true)

-- the serial in the UUID of a pool, None of a number that is no pool's
abbrev pub serial_in : ℕ → Option ℕ
serial_in uuid = if (uuid % 2 ^ 64 == 2 ^ 56) && nat_le 1 (uuid / 2 ^ 64) && nat_le (uuid / 2 ^ 64) MAX_POOL_SERIAL then Some (uuid / 2 ^ 64) else None

-- the name of the known pool that is meant
abbrev pub name_meant : PoolId → List TablePool → Option Text
name_meant (ByName name) pools = if knows name pools then Some name else None
name_meant (ByUuid uuid) pools = option_and_then (λ serial. named serial pools) (serial_in uuid)

abbrev pub by_mode : Text → HaltedMode → Meant
by_mode name halted.Stopped = Halted name
by_mode name halted.Unsettled = Halted name
by_mode name (halted.Incomplete path) = Lacking path

-- a known pool, by what is kept of it where it isn't started
abbrev pub by_info : Text → Option HaltedInfo → Meant
by_info name None = Started name
by_info name (Some info) = by_mode name info.mode
