use Rattle.std.proofs.Common.{◌*◌, ◌∷◌, [], ◌∙◌, length}
use Rattle.st_rack.specs.Device.{Settling, held}
use Rattle.st_rack.specs.Moments.{OnDevice}
use Rattle.st_rack.proofs.Moments.{goes_weak, at_end}
use Rattle.st_rack.proofs.Pending.{synced_sure}
use Rattle.st_ranges.specs.Ranges.{Works}
use Rattle.st_ranges.proofs.Working.{on_ok, runs_both, works_self, works_sync, synced_holds}
use Rattle.st_ranges.proofs.write.write_synced.Goals as goal

pub returns-clause-time : goal.returns-clause-time
returns-clause-time g c =
    let M = g.R.Rack.moment in
    let S = g.R.Rack.state_at in
    let old = c.args.rack.now in
    let mid = c.write_bytes.new.rack in
    let new = c.sync.new.self in
    let rs = (c.args.dev.now, 512 * c.args.sector, length c.args.bytes.now) ∷ [] in
    runs_both M S rs old mid new (at_end M S (Works rs) old mid (works_self rs (S old (M old))) c.write_bytes.ensures.time) c.write_bytes.ensures.time
    (goes_weak M S (OnDevice c.args.dev.now Settling) (Works rs) mid new (works_sync rs c.args.dev.now) c.sync.ensures.time)

pub returns-clause-held : goal.returns-clause-held
returns-clause-held g c =
    let M = g.R.Rack.moment in
    let S = g.R.Rack.state_at in
    on_ok c.sync.result _ _
    (λ synced. synced_holds M S c.args.dev.now c.write_bytes.new.rack c.sync.new.self c.sync.ensures.time synced ∙ c.in_ok-write_bytes.ensures.held) c.sync.ensures.synced

pub returns-clause-sure : goal.returns-clause-sure
returns-clause-sure g c =
    let M = g.R.Rack.moment in
    let S = g.R.Rack.state_at in
    on_ok c.sync.result _ _ (λ synced. synced_sure (S c.write_bytes.new.rack (M c.write_bytes.new.rack) c.args.dev.now) (S c.sync.new.self (M c.sync.new.self) c.args.dev.now) synced) c.sync.ensures.synced
