-- InitCache: the cache tier is made, and the cache is empty
use Rattle.std.specs.Prelude.{List, [], Some, is_some}
use Rattle.st_limits.specs.Sums.{cache_capacity}
use Rattle.st_units.specs.declared.cause.Cause.TheVariants.{CacheExists}
use Rattle.st_units.specs.declared.rows.DevRow.{DevRow}
use Rattle.st_units.specs.declared.rows.Tier.TheVariants.{CacheTier}
use Rattle.st_model.specs.declared.reply.Reply.{Reply}
use Rattle.st_model.specs.declared.state.CacheState.{CacheState}
use Rattle.st_model.specs.declared.state.EngineState.{EngineState}
use Rattle.st_model.specs.Answer.{refused_where}
use Rattle.st_model.specs.Flight.{cache_paths}
use Rattle.st_model.specs.Look.{Text}
use Rattle.st_model.specs.Sums.{cache_rows, sectors_in}
use Rattle.st_model.specs.steps.AddDevices.{Adding, add_devices}

abbrev pub empty_cache : List DevRow → CacheState
empty_cache rows = record { capacity = cache_capacity (sectors_in (cache_rows rows)); cells = []; hits = 0; misses = 0 }

abbrev pub new_cache : Adding
new_cache = record {
  tier = CacheTier;
  there = cache_paths;
  refusal = λ cache. refused_where (is_some cache) CacheExists;
  cache = λ rows cache. Some (empty_cache rows);
}

abbrev pub init_cache : Text → List Text → EngineState → Reply × EngineState
init_cache = add_devices new_cache
