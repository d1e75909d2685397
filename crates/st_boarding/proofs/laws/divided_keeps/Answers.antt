use Rattle.st_boarding.proofs.Boards.{keeps_table, lacks_others}
use Rattle.st_boarding.proofs.laws.divided_keeps.Goals as goal

pub returns-clause-keeps : goal.returns-clause-keeps
returns-clause-keeps g c e later parts found finished pools_same devices_same next_from divides told =
    keeps_table g.R.Rack.devs g.R.Rack.moment g.R.Rack.state_at g.R.Rack.faults g.R.Rack.spare c.args.old.now c.args.rest.now e later parts found finished pools_same devices_same next_from divides told

pub returns-clause-lacks : goal.returns-clause-lacks
returns-clause-lacks g c e later parts found finished pools_same devices_same next_from divides told =
    lacks_others g.R.Rack.devs g.R.Rack.moment g.R.Rack.state_at g.R.Rack.faults g.R.Rack.spare c.args.old.now c.args.rest.now e later parts found finished pools_same devices_same next_from divides told
