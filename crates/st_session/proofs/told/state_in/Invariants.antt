use Rattle.st_session.proofs.told.state_in.Given as goal

abbrev pub ghost-new : goal.ghost-new
ghost-new g a = a.first.now.is.0
