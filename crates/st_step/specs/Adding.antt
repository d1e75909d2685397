-- which of the three calls adds devices
use Rattle.std.specs.Prelude.{List, filter, not}
use Rattle.st_model.specs.Look.{Text, has_path}
use Rattle.st_model.specs.steps.AddCacheDevs.{more_cache}
use Rattle.st_model.specs.steps.AddDataDevs.{data_devs}
use Rattle.st_model.specs.steps.AddDevices as steps
use Rattle.st_model.specs.steps.InitCache.{new_cache}
use Rattle.st_step.specs.declared.add_devices.Adding.{Adding}
use Rattle.st_step.specs.declared.add_devices.Adding.TheVariants.{ToData, ToNewCache, ToCache}

abbrev pub adding_of : Adding → steps.Adding
adding_of ToData = data_devs
adding_of ToNewCache = new_cache
adding_of ToCache = more_cache

-- the paths that aren't among the tier's
abbrev pub outside : List Text → List Text → List Text
outside tier = filter (λ path. not (has_path path tier))
