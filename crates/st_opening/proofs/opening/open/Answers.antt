use Rattle.st_opening.proofs.Alike.{alike_synced}
use Rattle.st_opening.proofs.Course.{during_finish, during_read, foreign_at_start, opened}
use Rattle.st_opening.proofs.opening.open.Goals as goal

pub returns-in-Err-clause-during : goal.returns-in-Err-clause-during
returns-in-Err-clause-during g c = alike_synced (g.R.Rack.devs c.args.rack.now) g.R.Rack.moment g.R.Rack.state_at c.args.rack.now c.sync_rack.new.rack c.sync_rack.ensures.time

pub returns-in-Err-found-clause-foreign : goal.returns-in-Err-found-clause-foreign
returns-in-Err-found-clause-foreign g c n e =
    foreign_at_start g.R.Rack.devs g.R.Rack.moment g.R.Rack.state_at c.args.rack.now c.sync_rack.new.rack c.found.new.rack c.devices.ensures.rises c.sync_rack.ensures.time c.in-Ok.ensures.settled c.sync_rack.ensures.devs c.found.ensures.devs c.found.ensures.clock c.found.ensures.states n
    (c.in-Err-found.ensures.foreign n e)

pub returns-in-Err-found-clause-during : goal.returns-in-Err-found-clause-during
returns-in-Err-found-clause-during g c =
    during_read g.R.Rack.devs g.R.Rack.moment g.R.Rack.state_at c.args.rack.now c.sync_rack.new.rack c.found.new.rack c.devices.ensures.rises c.sync_rack.ensures.time c.in-Ok.ensures.settled c.sync_rack.ensures.devs c.found.ensures.devs c.found.ensures.clock c.found.ensures.states

pub returns-in-Ok-finished-clause-opened : goal.returns-in-Ok-finished-clause-opened
returns-in-Ok-finished-clause-opened g c =
    opened g.R.Rack.devs g.R.Rack.moment g.R.Rack.state_at c.args.rack.now c.sync_rack.new.rack c.found.new.rack c.devices.ensures.rises c.sync_rack.ensures.time c.in-Ok.ensures.settled c.sync_rack.ensures.devs c.found.ensures.devs c.found.ensures.clock c.found.ensures.states
    c.finished.new.rack c.in-Ok-found.told c.in-Ok-found.ensures.found c.in-Ok-finished.ensures.done

pub returns-in-Ok-finished-clause-during : goal.returns-in-Ok-finished-clause-during
returns-in-Ok-finished-clause-during g c =
    during_finish g.R.Rack.devs g.R.Rack.moment g.R.Rack.state_at c.args.rack.now c.sync_rack.new.rack c.found.new.rack c.devices.ensures.rises c.sync_rack.ensures.time c.in-Ok.ensures.settled c.sync_rack.ensures.devs c.found.ensures.devs c.found.ensures.clock c.found.ensures.states
    c.finished.new.rack c.finished.ensures.grows c.finished.ensures.during

pub returns-in-Err-finished-clause-during : goal.returns-in-Err-finished-clause-during
returns-in-Err-finished-clause-during g c =
    during_finish g.R.Rack.devs g.R.Rack.moment g.R.Rack.state_at c.args.rack.now c.sync_rack.new.rack c.found.new.rack c.devices.ensures.rises c.sync_rack.ensures.time c.in-Ok.ensures.settled c.sync_rack.ensures.devs c.found.ensures.devs c.found.ensures.clock c.found.ensures.states
    c.finished.new.rack c.finished.ensures.grows c.finished.ensures.during
