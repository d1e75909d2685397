use Rattle.st_model.specs.declared.call.Call.TheVariants.{RenamePool}
use Rattle.st_renaming.proofs.ready.asked.Given as goal

abbrev pub ghost-new : goal.ghost-new
ghost-new a = RenamePool a.first.now a.second.now
