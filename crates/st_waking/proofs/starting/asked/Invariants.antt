use Rattle.st_waking.proofs.starting.asked.Given as goal

abbrev pub ghost-new : goal.ghost-new
ghost-new a = (a.first.now.value, a.second.now)
