-- what the three calls that add devices to a pool have in common
use Rattle.std.specs.Prelude.{◌+◌, ◌==◌, nat_lt, List, [], ◌∷◌, ◌++◌, length, true, false, Option, Some, None, if◌then◌else◌}
use Rattle.st_limits.specs.declared.TheConstants.{MAX_POOL_DEVICES}
use Rattle.st_units.specs.declared.cause.Cause.TheVariants.{NoSuchPool, TooManyDevices}
use Rattle.st_units.specs.declared.rows.DevRow.{DevRow}
use Rattle.st_units.specs.declared.rows.Tier.{Tier}
use Rattle.st_model.specs.declared.reply.Given.TheVariants.{Added}
use Rattle.st_model.specs.declared.reply.Reply.{Reply}
use Rattle.st_model.specs.declared.state.CacheState.{CacheState}
use Rattle.st_model.specs.declared.state.EngineState.{EngineState}
use Rattle.st_model.specs.declared.state.PoolState.{PoolState}
use Rattle.st_model.specs.Answer.{accepted, refused, refused_where, first_answer, unless_answered}
use Rattle.st_model.specs.Checks.{absent_device, no_devices, not_up, rows_on, small_device, used_device, worn}
use Rattle.st_model.specs.Flight.{new_to}
use Rattle.st_model.specs.Lifted.{changed}
use Rattle.st_model.specs.Look.{Text}
use Rattle.st_model.specs.Parts.{pool_at}

-- what each of them has of its own
pub record Adding : Type 0 where
  -- the tier that gets the devices, and the devices that are in it already
  pub tier : Tier
  pub there : List DevRow → List Text
  -- the refusal that a cache, or its absence, makes
  pub refusal : Option CacheState → Option Reply
  -- the cache, once these are the pool's devices
  pub cache : List DevRow → Option CacheState → Option CacheState

-- the answers that change nothing, in the order in which they are tried; `new` are the devices that aren't in the tier yet
abbrev pub add_answers : Adding → EngineState → List Text → List Text → PoolState → List (Option Reply)
add_answers a s devices new p =
    not_up p p.mode
    ∷ no_devices devices
    ∷ absent_device devices s.devices
    ∷ (if length new == 0 then Some (accepted (Added false [])) else None)
    ∷ a.refusal p.cache
    ∷ used_device new s.pools
    ∷ small_device new s.devices
    ∷ refused_where (nat_lt MAX_POOL_DEVICES (length p.devices + length new)) TooManyDevices
    ∷ worn p
    ∷ []

-- the pool with these rows as its devices
abbrev pub on_devices : Adding → List DevRow → PoolState → PoolState
on_devices a rows p = record p { devices = rows; cache = a.cache rows p.cache; commits = p.commits + 1 }

-- the pool with the devices behind those that it has
abbrev pub with_devices : Adding → List DevRow → List Text → PoolState → PoolState
with_devices a rack new p = on_devices a (p.devices ++ rows_on a.tier rack new) p

abbrev pub add_new : Adding → EngineState → Text → List Text → List Text → PoolState → Reply × EngineState
add_new a s name devices new p =
    unless_answered (first_answer (add_answers a s devices new p)) s
    (accepted (Added true new), changed name (with_devices a s.devices new) s)

abbrev pub add_found : Adding → EngineState → Text → List Text → Option PoolState → Reply × EngineState
add_found a s name devices None = (refused NoSuchPool, s)
add_found a s name devices (Some p) = add_new a s name devices (new_to (a.there p.devices) devices) p

unfoldable pub add_devices : Adding → Text → List Text → EngineState → Reply × EngineState
add_devices a name devices s = add_found a s name devices (pool_at name s.pools)
