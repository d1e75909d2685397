use Rattle.st_lock.proofs.seat.opened_by.Given as goal

abbrev pub ghost-new : goal.ghost-new
ghost-new g a = a.first.now.opening
