-- AddCacheDevs: more devices for the cache tier; the cache keeps its list and its counts
use Rattle.std.specs.Prelude.{List, Option, is_none, option_map}
use Rattle.st_limits.specs.Sums.{cache_capacity}
use Rattle.st_units.specs.declared.cause.Cause.TheVariants.{NoCache}
use Rattle.st_units.specs.declared.rows.DevRow.{DevRow}
use Rattle.st_units.specs.declared.rows.Tier.TheVariants.{CacheTier}
use Rattle.st_model.specs.declared.reply.Reply.{Reply}
use Rattle.st_model.specs.declared.state.CacheState.{CacheState}
use Rattle.st_model.specs.declared.state.EngineState.{EngineState}
use Rattle.st_model.specs.Answer.{refused_where}
use Rattle.st_model.specs.Flight.{cache_paths}
use Rattle.st_model.specs.Look.{Text}
use Rattle.st_model.specs.Sums.{cache_rows, sectors_in}
use Rattle.st_model.specs.steps.AddDevices.{Adding, add_devices}

abbrev pub larger_cache : List DevRow → Option CacheState → Option CacheState
larger_cache rows = option_map (λ (cache : CacheState). record cache { capacity = cache_capacity (sectors_in (cache_rows rows)) })

abbrev pub more_cache : Adding
more_cache = record {
  tier = CacheTier;
  there = cache_paths;
  refusal = λ cache. refused_where (is_none cache) NoCache;
  cache = larger_cache;
}

abbrev pub add_cache_devs : Text → List Text → EngineState → Reply × EngineState
add_cache_devs = add_devices more_cache
