use Rattle.std.proofs.Common.{List, sym, subst}
use Rattle.st_rack.specs.Device.{Path}
use Rattle.st_deltalog.specs.Bearing.{IsSettled}
use Rattle.st_commit.specs.Ready.{AreDistinct, IsOf}
use Rattle.st_opening.proofs.Paths.{all_settled, path_has, paths_distinct}
use Rattle.st_opening.proofs.opening.sync_rack.Goals as goal

pub sync_all-requires-clause-distinct : goal.sync_all-requires-clause-distinct
sync_all-requires-clause-distinct g c = subst AreDistinct (sym c.in_ok-list.ensures) (paths_distinct (g.R.Rack.devs c.args.rack.now) c.devices.ensures.rises)

pub sync_all-requires-clause-there : goal.sync_all-requires-clause-there
sync_all-requires-clause-there g c d of = path_has (g.R.Rack.devs c.args.rack.now) c.devices.ensures.rises d (subst (λ (l : List Path). IsOf l d) c.in_ok-list.ensures of)

pub returns-in-Ok-clause-settled : goal.returns-in-Ok-clause-settled
returns-in-Ok-clause-settled g c = all_settled (g.R.Rack.devs c.args.rack.now) (g.R.Rack.state_at c.sync_all.new.rack (g.R.Rack.moment c.sync_all.new.rack))
    (subst (λ (l : List Path). (d : Path) → IsOf l d → IsSettled (g.R.Rack.state_at c.sync_all.new.rack (g.R.Rack.moment c.sync_all.new.rack) d)) c.in_ok-list.ensures c.in-Ok.ensures.done)
