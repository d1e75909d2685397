-- AddDataDevs: more devices for the data tier, whose room grows by theirs
use Rattle.std.specs.Prelude.{List, None}
use Rattle.st_units.specs.declared.rows.Tier.TheVariants.{DataTier}
use Rattle.st_model.specs.declared.reply.Reply.{Reply}
use Rattle.st_model.specs.declared.state.EngineState.{EngineState}
use Rattle.st_model.specs.Look.{Text}
use Rattle.st_model.specs.steps.AddDevices.{Adding, add_devices}
use Rattle.st_model.specs.steps.CreatePool.{data_paths}

abbrev pub data_devs : Adding
data_devs = record {
  tier = DataTier;
  there = data_paths;
  refusal = λ cache. None;
  cache = λ rows cache. cache;
}

abbrev pub add_data_devs : Text → List Text → EngineState → Reply × EngineState
add_data_devs = add_devices data_devs
