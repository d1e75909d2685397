use Rattle.std.proofs.Common.{◌*◌, ◌∷◌, [], length}
use Rattle.st_rack.specs.Device.{Touched}
use Rattle.st_rack.specs.Moments.{OnDevice}
use Rattle.st_rack.proofs.Moments.{goes_weak}
use Rattle.st_ranges.specs.Ranges.{Works}
use Rattle.st_ranges.proofs.Working.{on_ok, works_write, write_holds}
use Rattle.st_ranges.proofs.write.write_bytes.Goals as goal

pub returns-clause-time : goal.returns-clause-time
returns-clause-time g c =
    goes_weak g.R.Rack.moment g.R.Rack.state_at (OnDevice c.args.dev.now (Touched (512 * c.args.sector) c.args.bytes.now)) (Works ((c.args.dev.now, 512 * c.args.sector, length c.args.bytes.now) ∷ []))
    c.args.rack.now c.write.new.self (works_write c.args.dev.now (512 * c.args.sector) c.args.bytes.now) c.write.ensures.time

pub returns-clause-held : goal.returns-clause-held
returns-clause-held g c =
    let M = g.R.Rack.moment in
    let S = g.R.Rack.state_at in
    on_ok c.write.result _ _
    (λ given. write_holds c.args.dev.now (512 * c.args.sector) c.args.bytes.now (S c.args.rack.now (M c.args.rack.now)) (S c.write.new.self (M c.write.new.self)) c.write.ensures.touched given) c.write.ensures.written
