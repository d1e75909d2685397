use Rattle.st_model.specs.declared.call.Call.TheVariants.{StartPool}
use Rattle.st_model.specs.Parts.{table_of}
use Rattle.st_model.specs.Step.{step}
use Rattle.st_waking.proofs.starting.state_after.Given as goal

abbrev pub ghost-new : goal.ghost-new
ghost-new a = table_of (step a.first.now.value.0 (StartPool a.first.now.value.1) a.second.now).1
