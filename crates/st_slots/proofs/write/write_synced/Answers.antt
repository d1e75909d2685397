use Rattle.std.proofs.Common.{◌*◌}
use Rattle.st_slots.proofs.Running.{wrote, wrote_synced, rewritten, on_ok}
use Rattle.st_slots.proofs.write.write_synced.Goals as goal

pub returns-in_err-write-clause-time : goal.returns-in_err-write-clause-time
returns-in_err-write-clause-time g c =
    wrote g.R.Rack.moment g.R.Rack.state_at c.args.dev.now (512 * c.args.sector) c.args.bytes.now c.args.rack.now c.write.new.self c.write.ensures.time

pub returns-clause-time : goal.returns-clause-time
returns-clause-time g c =
    wrote_synced g.R.Rack.moment g.R.Rack.state_at c.args.dev.now (512 * c.args.sector) c.args.bytes.now c.args.rack.now c.write.new.self c.sync.new.self
    c.write.ensures.touched c.in_ok-write.ensures.written c.write.ensures.time c.sync.ensures.time

pub returns-clause-done : goal.returns-clause-done
returns-clause-done g c =
    on_ok c.sync.result _ _
    (λ synced. rewritten g.R.Rack.moment g.R.Rack.state_at c.args.dev.now (512 * c.args.sector) c.args.bytes.now c.args.rack.now c.write.new.self c.sync.new.self
    c.write.ensures.touched c.in_ok-write.ensures.written c.sync.ensures.time synced) c.sync.ensures.synced
