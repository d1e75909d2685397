-- the reports that replies give
use Rattle.std.specs.Prelude.{Bool, true, false, Option, Some, None}
use Rattle.serde_json.specs.Data.{Data, null}
use Rattle.st_model.specs.declared.reply.Given.{Given}
use Rattle.st_model.specs.declared.reply.Given.TheVariants.{Pool, Pools, Engine}
use Rattle.st_model.specs.declared.reply.Reply.{Reply}
use Rattle.st_report.specs.Engine.{engine_data}
use Rattle.st_report.specs.Pool.{pool_data, pools_data}

abbrev pub is_report : Option Given → Bool
is_report (Some (Pool info)) = true
is_report (Some (Pools infos)) = true
is_report (Some (Engine table infos)) = true
is_report _ = false

abbrev pub report_data : Option Given → Data
report_data (Some (Pool info)) = pool_data info
report_data (Some (Pools infos)) = pools_data infos
report_data (Some (Engine table infos)) = engine_data table infos
report_data _ = null
