use Rattle.st_history.specs.History.{replay}
use Rattle.test_begin.proofs.engine.state_after.Given as goal

abbrev pub ghost-new : goal.ghost-new
ghost-new a = replay a.first.now.value a.second.now.items
