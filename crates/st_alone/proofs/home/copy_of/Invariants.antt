use Rattle.st_alone.proofs.home.copy_of.Given as goal

abbrev pub ghost-new : goal.ghost-new
ghost-new a = a.first.now.value
