-- what this program computes of step
use Rattle.std.specs.Prelude.{Bool, true, false}
use Rattle.st_model.specs.declared.call.Call.{Call}
use Rattle.st_model.specs.declared.call.Call.TheVariants.{AddCacheDevs, AddDataDevs, CreatePool, EngineStateReport, InitCache}
use Rattle.st_model.specs.declared.entry.Env.{Env}
use Rattle.st_model.specs.declared.entry.Env.TheVariants.{Plain, NoMem, FaultWrite}

abbrev pub runs : Call → Env → Bool
runs call NoMem = true
runs (CreatePool name devices) FaultWrite = true
runs (CreatePool name devices) Plain = true
runs (AddDataDevs pool devices) Plain = true
runs (InitCache pool devices) Plain = true
runs (AddCacheDevs pool devices) Plain = true
runs EngineStateReport Plain = true
runs call env = false
