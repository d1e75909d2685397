use Rattle.st_history.specs.History.{replay}
use Rattle.st_lock.specs.Opening.{events_of}
use Rattle.st_lock.specs.Seats.{opened}
use Rattle.st_lock.proofs.seat.state_after.Given as goal

abbrev pub ghost-new : goal.ghost-new
ghost-new a = replay (opened a.second.now.value).state (events_of a.first.now.value)
