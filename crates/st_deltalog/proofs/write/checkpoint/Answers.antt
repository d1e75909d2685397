use Rattle.std.proofs.Common.{arith}
use Rattle.st_deltalog.proofs.Runs.{checkpoint_stays, checkpoint_old_read, checkpoint_over, checkpoint_new, checkpoint_new_read}
use Rattle.st_deltalog.proofs.write.checkpoint.Goals as goal

pub returns-in_err-write_at-clause-stays : goal.returns-in_err-write_at-clause-stays
returns-in_err-write_at-clause-stays g c =
    checkpoint_stays g.R.Rack.moment g.R.Rack.state_at c.args.dev.now c.args.flex.now c.args.slot c.args.generation c.args.body.now c.args.rack.now c.write_at.new.rack c.write_at.ensures.eight (omega (arith, c.requires.lies.small)) c.requires.place c.requires.first c.requires.last c.requires.fits c.write_at.ensures.time

pub returns-in_err-write_at-clause-old_read : goal.returns-in_err-write_at-clause-old_read
returns-in_err-write_at-clause-old_read g c =
    checkpoint_old_read g.R.Rack.moment g.R.Rack.state_at c.args.dev.now c.args.flex.now c.args.slot c.args.generation c.args.body.now c.args.rack.now c.write_at.new.rack c.write_at.ensures.eight (omega (arith, c.requires.lies.small)) c.requires.place c.requires.first c.requires.last c.requires.fits c.write_at.ensures.time

pub returns-clause-stays : goal.returns-clause-stays
returns-clause-stays g c =
    checkpoint_stays g.R.Rack.moment g.R.Rack.state_at c.args.dev.now c.args.flex.now c.args.slot c.args.generation c.args.body.now c.args.rack.now c.write_at.new.rack c.write_at.ensures.eight (omega (arith, c.requires.lies.small)) c.requires.place c.requires.first c.requires.last c.requires.fits c.write_at.ensures.time

pub returns-clause-old_read : goal.returns-clause-old_read
returns-clause-old_read g c =
    checkpoint_old_read g.R.Rack.moment g.R.Rack.state_at c.args.dev.now c.args.flex.now c.args.slot c.args.generation c.args.body.now c.args.rack.now c.write_at.new.rack c.write_at.ensures.eight (omega (arith, c.requires.lies.small)) c.requires.place c.requires.first c.requires.last c.requires.fits c.write_at.ensures.time

pub returns-clause-over : goal.returns-clause-over
returns-clause-over g c =
    checkpoint_over g.R.Rack.moment g.R.Rack.state_at c.args.dev.now c.args.flex.now c.args.slot c.args.generation c.args.body.now c.args.rack.now c.write_at.new.rack c.write_at.ensures.eight (omega (arith, c.requires.lies.small)) c.requires.place c.requires.first c.requires.last c.requires.fits c.in_ok-write_at.ensures.done.here

pub returns-clause-new : goal.returns-clause-new
returns-clause-new g c =
    checkpoint_new g.R.Rack.moment g.R.Rack.state_at c.args.dev.now c.args.flex.now c.args.slot c.args.generation c.args.body.now c.args.rack.now c.write_at.new.rack c.write_at.ensures.eight (omega (arith, c.requires.lies.small)) c.requires.place c.requires.first c.requires.last c.requires.fits c.in_ok-write_at.ensures.done.here

pub returns-clause-new_read : goal.returns-clause-new_read
returns-clause-new_read g c =
    checkpoint_new_read g.R.Rack.moment g.R.Rack.state_at c.args.dev.now c.args.flex.now c.args.slot c.args.generation c.args.body.now c.args.rack.now c.write_at.new.rack c.write_at.ensures.eight (omega (arith, c.requires.lies.small)) c.requires.place c.requires.first c.requires.last c.requires.fits c.in_ok-write_at.ensures.done.here
