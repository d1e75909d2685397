-- the calls that the engine runs
use Rattle.std.specs.Prelude.{Bool, true, false}
use Rattle.st_model.specs.declared.call.Call.{Call}
use Rattle.st_model.specs.declared.call.Call.TheVariants.{CreatePool, DestroyPool, StopPool, StartPool, RenamePool, EngineStateReport}

abbrev pub runs : Call → Bool
runs (CreatePool name devices) = true
runs (DestroyPool name) = true
runs (StopPool name) = true
runs (StartPool id) = true
runs (RenamePool name new) = true
runs EngineStateReport = true
runs call = false
