-- the calls whose step has code
use Rattle.std.specs.Prelude.{Bool, true, false}
use Rattle.st_model.specs.declared.call.Call.{Call}
use Rattle.st_model.specs.declared.call.Call.TheVariants.{FsWrite, PoolReports}

abbrev pub has_code : Call → Bool
has_code (FsWrite pool name sector payload) = false
has_code (PoolReports pools) = false
has_code call = true
