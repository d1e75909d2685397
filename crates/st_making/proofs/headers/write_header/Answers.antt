use Rattle.st_slots.proofs.Running.{on_ok}
use Rattle.st_making.proofs.Heading.{second_written, first_written, both_written}
use Rattle.st_making.proofs.headers.write_header.Goals as goal

pub returns-in_err-write_synced-clause-time : goal.returns-in_err-write_synced-clause-time
returns-in_err-write_synced-clause-time g c = second_written g.R.Rack.moment g.R.Rack.state_at c.args.dev.now c.args.bytes.now c.args.rack.now c.write_synced.new.rack c.write_synced.ensures.time

pub returns-clause-time : goal.returns-clause-time
returns-clause-time g c =
    first_written g.R.Rack.moment g.R.Rack.state_at c.args.dev.now c.args.bytes.now c.args.rack.now c.write_synced.new.rack c.write_synced-2.new.rack
    c.in_ok-write_synced.ensures.done c.write_synced.ensures.time c.write_synced-2.ensures.time

pub returns-clause-done : goal.returns-clause-done
returns-clause-done g c =
    on_ok c.write_synced-2.result _ _ (both_written g.R.Rack.moment g.R.Rack.state_at c.args.dev.now c.args.bytes.now c.args.rack.now c.write_synced.new.rack c.write_synced-2.new.rack c.in_ok-write_synced.ensures.done)
    c.write_synced-2.ensures.done
