use Rattle.st_model.specs.Step.{step}
use Rattle.st_alone.proofs.granted.state_past.Given as goal

abbrev pub ghost-new : goal.ghost-new
ghost-new a = (step a.first.now.value a.second.now.call a.second.now.env).1
