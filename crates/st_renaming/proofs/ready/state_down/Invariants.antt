use Rattle.st_model.specs.declared.entry.Env.TheVariants.{FaultWrite}
use Rattle.st_model.specs.Parts.{table_of}
use Rattle.st_model.specs.Step.{step}
use Rattle.st_renaming.proofs.ready.state_down.Given as goal

abbrev pub ghost-new : goal.ghost-new
ghost-new a = table_of (step a.first.now.value a.second.now.value FaultWrite).1
