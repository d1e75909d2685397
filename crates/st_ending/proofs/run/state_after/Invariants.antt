use Rattle.st_model.specs.declared.call.Call.TheVariants.{DestroyPool}
use Rattle.st_model.specs.declared.entry.Env.TheVariants.{Plain}
use Rattle.st_model.specs.Parts.{table_of}
use Rattle.st_model.specs.Step.{step}
use Rattle.st_ending.proofs.run.state_after.Given as goal

abbrev pub ghost-new : goal.ghost-new
ghost-new a = table_of (step a.first.now.value (DestroyPool a.second.now) Plain).1
